-- Each row is that of its kind of change.
use Rattle.std.proofs.Common.{take, ap, sym, ◌∙◌}
use Rattle.std.proofs.lemmas.Result.{IfOk-weaker}
use Rattle.mtn_changeset_laws.specs.Changes.{why}
use Rattle.mtn_apply.specs.Index.{old_of, changes_of}
use Rattle.mtn_apply.proofs.why.why_of.Goals as goal

pub returns-in-Delete : goal.returns-in-Delete
returns-in-Delete c = IfOk-weaker c.why_delete.result _ _ (λ w h. h (take c.args.at (changes_of c.args.edge.now)) ∙ ap (why (old_of c.args.edge.now) (changes_of c.args.edge.now) (take c.args.at (changes_of c.args.edge.now))) (sym c.in-Delete.is)) c.why_delete.ensures

pub returns-in-Rename : goal.returns-in-Rename
returns-in-Rename c = IfOk-weaker c.why_rename.result _ _ (λ w h. h ∙ ap (why (old_of c.args.edge.now) (changes_of c.args.edge.now) (take c.args.at (changes_of c.args.edge.now))) (sym c.in-Rename.is)) c.why_rename.ensures

pub returns-in-AddFile : goal.returns-in-AddFile
returns-in-AddFile c = IfOk-weaker c.why_add_file.result _ _ (λ w h. h c.in-AddFile.content ∙ ap (why (old_of c.args.edge.now) (changes_of c.args.edge.now) (take c.args.at (changes_of c.args.edge.now))) (sym c.in-AddFile.is)) c.why_add_file.ensures

pub returns-in-Patch : goal.returns-in-Patch
returns-in-Patch c = IfOk-weaker c.why_patch.result _ _ (λ w h. h (take c.args.at (changes_of c.args.edge.now)) ∙ ap (why (old_of c.args.edge.now) (changes_of c.args.edge.now) (take c.args.at (changes_of c.args.edge.now))) (sym c.in-Patch.is)) c.why_patch.ensures

pub returns-in-Clear : goal.returns-in-Clear
returns-in-Clear c = IfOk-weaker c.why_clear.result _ _ (λ w h. h (take c.args.at (changes_of c.args.edge.now)) ∙ ap (why (old_of c.args.edge.now) (changes_of c.args.edge.now) (take c.args.at (changes_of c.args.edge.now))) (sym c.in-Clear.is)) c.why_clear.ensures

pub returns-in-Set : goal.returns-in-Set
returns-in-Set c = IfOk-weaker c.why_set.result _ _ (λ w h. h (take c.args.at (changes_of c.args.edge.now)) ∙ ap (why (old_of c.args.edge.now) (changes_of c.args.edge.now) (take c.args.at (changes_of c.args.edge.now))) (sym c.in-Set.is)) c.why_set.ensures
