-- The line of a file.
use Rattle.std.proofs.Common.{◌∙◌, ℕ, List, ap}
use Rattle.std.proofs.lemmas.Result.{on_ok_weaker}
use Rattle.mtn_roster_text.specs.Naming.{ids_at}
use Rattle.mtn_roster_text.proofs.Lines.{content_is}
use Rattle.mtn_roster_text.proofs.printing.write_content_marks.Goals as goal

pub returns-in_ok-put_ids-in-File-clause-ok : goal.returns-in_ok-put_ids-in-File-clause-ok
returns-in_ok-put_ids-in-File-clause-ok c =
    on_ok_weaker _ (content_is c.args.column c.args.body.now c.in-File.content _ c.deref.result.now c.args.out.now.items c.write_ids_line.new.out.items c.in-File.is
    (c.deref.ensures.value ∙ c.in_ok-put_ids-in-File.ensures ∙ ap (λ (l : List ℕ). ids_at c.args.table.now l) c.positions_in.ensures)) c.write_ids_line.ensures.ok
