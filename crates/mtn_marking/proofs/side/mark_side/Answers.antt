-- Each case on what the parents have is a case of the rule.
use Rattle.std.proofs.Common.{None, Some}
use Rattle.std.proofs.lemmas.Result.{IfOk-weaker}
use Rattle.mtn_marking.proofs.Siding.{at_haves, none_row, left_row, right_row, both_rows}
use Rattle.mtn_marking.proofs.side.mark_side.Goals as goal

pub returns-in-None-right : goal.returns-in-None-right
returns-in-None-right c =
    IfOk-weaker _ _ _ (λ m e. at_haves c.args.against.now.at c.args.against.now.only_left.now c.args.against.now.only_right.now c.args.left c.args.right None None m
    c.in-None.is c.in-None-right.is (none_row c.args.against.now.at c.args.against.now.only_left.now c.args.against.now.only_right.now m c.args.against.now.here.now c.requires.here e)) c.copy.ensures

pub returns-in-Some-right : goal.returns-in-Some-right
returns-in-Some-right c =
    IfOk-weaker _ _ _ (λ m e. at_haves c.args.against.now.at c.args.against.now.only_left.now c.args.against.now.only_right.now c.args.left c.args.right None (Some c.in-Some-right.r) m
    c.in-None.is c.in-Some-right.is (right_row c.args.against.now.at c.args.against.now.only_left.now c.args.against.now.only_right.now m c.args.against.now.here.now c.requires.here c.in-Some-right.r e)) c.mark_by_one.ensures

pub returns-in-None-right-2 : goal.returns-in-None-right-2
returns-in-None-right-2 c =
    IfOk-weaker _ _ _ (λ m e. at_haves c.args.against.now.at c.args.against.now.only_left.now c.args.against.now.only_right.now c.args.left c.args.right (Some c.in-Some.l) None m
    c.in-Some.is c.in-None-right-2.is (left_row c.args.against.now.at c.args.against.now.only_left.now c.args.against.now.only_right.now m c.args.against.now.here.now c.requires.here c.in-Some.l e)) c.mark_by_one-in-None-right-2.ensures

pub returns-in-Some-right-2 : goal.returns-in-Some-right-2
returns-in-Some-right-2 c =
    IfOk-weaker _ _ _ (λ m h. at_haves c.args.against.now.at c.args.against.now.only_left.now c.args.against.now.only_right.now c.args.left c.args.right (Some c.in-Some.l) (Some c.in-Some-right-2.r) m
    c.in-Some.is c.in-Some-right-2.is (both_rows c.args.against.now.at c.args.against.now.only_left.now c.args.against.now.only_right.now m c.args.against.now.here.now c.requires.here c.in-Some.l c.in-Some-right-2.r h)) c.mark_by_two.ensures
