use Rattle.std.proofs.Common.{ap, sym, subst}
use Rattle.std.specs.Prelude.{IfOk}
use Rattle.mtn_base.specs.declared.name.NodeName.{NodeName}
use Rattle.mtn_history_laws.specs.Scalars.Scalar.{SlotOf}
use Rattle.mtn_history_laws.specs.Scalars.Value.{SlotValue}
use Rattle.mtn_marking.specs.Marking.{side_of}
use Rattle.mtn_decide.specs.Parts.{left_of, right_of}
use Rattle.mtn_decide.specs.Sets.{IsVerdict}
use Rattle.mtn_decide.specs.Verdicts.{slot_verdict}
use Rattle.mtn_decide.specs.Verdicts.Verdict.{Settled}
use Rattle.mtn_decide.proofs.Choosing.{slot_of_left, slot_of_right}
use Rattle.mtn_decide.proofs.choose.choose_slot.Goals as goal

pub returns-in_ok-copy-in-Left : goal.returns-in_ok-copy-in-Left
returns-in_ok-copy-in-Left c = slot_of_left c.args.only_left.now c.args.only_right.now c.args.turn c.in-Left.left c.in-Left.is _ (ap (λ x. Settled (SlotValue x)) (sym c.in_ok-copy-in-Left.ensures))

pub returns-in_ok-copy-in-Right : goal.returns-in_ok-copy-in-Right
returns-in_ok-copy-in-Right c = slot_of_right c.args.only_left.now c.args.only_right.now c.args.turn c.in-Right.right c.in-Right.is _ (ap (λ x. Settled (SlotValue x)) (sym c.in_ok-copy-in-Right.ensures))

pub returns-in-Both : goal.returns-in-Both
returns-in-Both c = subst (λ t. IfOk c.choose_slot_of_both.result (λ s. (n : NodeName) → IsVerdict c.args.only_left.now c.args.only_right.now (side_of (SlotOf n) (left_of t)) (side_of (SlotOf n) (right_of t)) (slot_verdict s))) (sym c.in-Both.is) c.choose_slot_of_both.ensures
