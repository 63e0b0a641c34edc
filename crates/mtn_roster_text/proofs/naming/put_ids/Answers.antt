-- One more position.
use Rattle.std.proofs.Common.{◌++◌, [], Option, Vec, Global, sym, ap, ◌∙◌}
use Rattle.std.specs.List.{cons_option}
use Rattle.std.proofs.lemmas.List.{append-nil}
use Rattle.mtn_base.specs.declared.id.Id.{Id}
use Rattle.mtn_roster_text.proofs.Tables.{ids_more}
use Rattle.mtn_roster_text.proofs.naming.put_ids.Goals as goal
use Rattle.mtn_roster_text.proofs.naming.put_ids.Goals.{in-Some+in_ok-push, in_default}

pub loop-at-preserved : goal.loop-at-preserved
loop-at-preserved c =
    let before = c.loop-at.ids.items in
    ids_more c.args.table.now c.args.marks.now c.loop-at.at-index c.at-item.result before c.match-id.ids.items c.loop-at-test.true c.at-item.is c.loop-at.invariant
    (elim c.match-id.branch [
      | in-Some+in_ok-push w ↦ ap (λ (v : Vec Id Global). v.items) w.ids-is ∙ w.in_ok-push.ensures.items ∙ ap (λ (o : Option Id). before ++ cons_option o []) w.in-Some.ensures
      | in_default w ↦ ap (λ (v : Vec Id Global). v.items) w.ids-is ∙ sym (append-nil before) ∙ ap (λ (o : Option Id). before ++ cons_option o []) w.in_default.ensures
    ])
