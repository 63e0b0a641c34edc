-- A roster can be built of the entries, where no change fails.
use Rattle.std.proofs.Common.{◌∙◌}
use Rattle.std.proofs.lemmas.Result.{IfOk-weaker}
use Rattle.mtn_apply.specs.Index.{old_of, changes_of}
use Rattle.mtn_apply.proofs.Builds.{buildable, same_tree}
use Rattle.mtn_apply.proofs.applying.made_of.Goals as goal

pub built_of-requires : goal.built_of-requires
built_of-requires c =
    buildable (old_of c.args.edge.now) (changes_of c.args.edge.now) c.args.new c.requires.indexed.sane c.requires.renames c.requires.unborn c.requires.fine c.in_ok-entries.entries.items c.in_ok-entries.ensures

pub returns : goal.returns
returns c =
    IfOk-weaker c.built_of.result _ _ (λ r h.
    h ∙ same_tree (old_of c.args.edge.now) (changes_of c.args.edge.now) c.args.new c.requires.indexed.sane c.requires.renames c.requires.unborn c.requires.fine c.in_ok-entries.entries.items c.in_ok-entries.ensures) c.built_of.ensures
