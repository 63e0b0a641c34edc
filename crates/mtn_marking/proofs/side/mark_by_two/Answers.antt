use Rattle.std.proofs.lemmas.Result.{IfOk-weaker}
use Rattle.mtn_marking.proofs.Rows.{both_row}
use Rattle.mtn_marking.proofs.side.mark_by_two.Goals as goal

pub returns-then-right : goal.returns-then-right
returns-then-right c =
    IfOk-weaker _ _ _ (λ m h. both_row c.args.against.now.at c.args.left.marks.now c.args.right.marks.now c.args.against.now.only_left.now c.args.against.now.only_right.now m
    c.args.left.equal c.args.right.equal c.if-left.true c.if-right.true h) c.united.ensures
