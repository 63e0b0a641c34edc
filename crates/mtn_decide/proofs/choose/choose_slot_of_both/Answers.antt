use Rattle.std.proofs.Common.{ap, sym}
use Rattle.mtn_history_laws.specs.Scalars.Value.{SlotValue}
use Rattle.mtn_decide.specs.declared.scalar.Choice.TheVariants.{Both, Left, Right, Clash}
use Rattle.mtn_decide.specs.Verdicts.Verdict.{Settled, Clashing}
use Rattle.mtn_decide.proofs.Choosing.{of_slots}
use Rattle.mtn_decide.proofs.choose.choose_slot_of_both.Goals as goal

pub returns-in_ok-copy-in-Both : goal.returns-in_ok-copy-in-Both
returns-in_ok-copy-in-Both c = λ n. of_slots c.args.only_left.now c.args.only_right.now c.args.left.node.now.slot c.args.right.node.now.slot c.args.left.marking.now.slot c.args.right.marking.now.slot c.same-equal.result c.same-equal.ensures.equal Both c.in-Both.ensures _ (ap (λ x. Settled (SlotValue x)) (sym c.in_ok-copy-in-Both.ensures))

pub returns-in_ok-copy-in-Left : goal.returns-in_ok-copy-in-Left
returns-in_ok-copy-in-Left c = λ n. of_slots c.args.only_left.now c.args.only_right.now c.args.left.node.now.slot c.args.right.node.now.slot c.args.left.marking.now.slot c.args.right.marking.now.slot c.same-equal.result c.same-equal.ensures.equal Left c.in-Left.ensures _ (ap (λ x. Settled (SlotValue x)) (sym c.in_ok-copy-in-Left.ensures))

pub returns-in_ok-copy-in-Right : goal.returns-in_ok-copy-in-Right
returns-in_ok-copy-in-Right c = λ n. of_slots c.args.only_left.now c.args.only_right.now c.args.left.node.now.slot c.args.right.node.now.slot c.args.left.marking.now.slot c.args.right.marking.now.slot c.same-equal.result c.same-equal.ensures.equal Right c.in-Right.ensures _ (ap (λ x. Settled (SlotValue x)) (sym c.in_ok-copy-in-Right.ensures))

pub returns-in_ok-copy-in-Clash-2 : goal.returns-in_ok-copy-in-Clash-2
returns-in_ok-copy-in-Clash-2 c = λ n. of_slots c.args.only_left.now c.args.only_right.now c.args.left.node.now.slot c.args.right.node.now.slot c.args.left.marking.now.slot c.args.right.marking.now.slot c.same-equal.result c.same-equal.ensures.equal Clash c.in-Clash.ensures _ (λ i. Clashing (SlotValue (sym c.in_ok-copy-in-Clash.ensures i)) (SlotValue (sym c.in_ok-copy-in-Clash-2.ensures i)))
