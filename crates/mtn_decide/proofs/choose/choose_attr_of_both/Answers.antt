use Rattle.std.proofs.Common.{ap, sym}
use Rattle.mtn_history_laws.specs.Scalars.Value.{AttrValue}
use Rattle.mtn_decide.specs.declared.scalar.Choice.TheVariants.{Both, Left, Right, Clash}
use Rattle.mtn_decide.specs.Verdicts.Verdict.{Settled, Clashing}
use Rattle.mtn_decide.proofs.Choosing.{of_attrs}
use Rattle.mtn_decide.proofs.choose.choose_attr_of_both.Goals as goal

pub returns-in_ok-copy_value-in-Both : goal.returns-in_ok-copy_value-in-Both
returns-in_ok-copy_value-in-Both c = of_attrs c.args.only_left.now c.args.only_right.now c.args.left.attr.now.value c.args.right.attr.now.value c.args.left.marks.now c.args.right.marks.now c.same_value-equal.result c.same_value-equal.ensures Both c.in-Both.ensures _ (ap (λ x. Settled (AttrValue x)) (sym c.in_ok-copy_value-in-Both.ensures))

pub returns-in_ok-copy_value-in-Left : goal.returns-in_ok-copy_value-in-Left
returns-in_ok-copy_value-in-Left c = of_attrs c.args.only_left.now c.args.only_right.now c.args.left.attr.now.value c.args.right.attr.now.value c.args.left.marks.now c.args.right.marks.now c.same_value-equal.result c.same_value-equal.ensures Left c.in-Left.ensures _ (ap (λ x. Settled (AttrValue x)) (sym c.in_ok-copy_value-in-Left.ensures))

pub returns-in_ok-copy_value-in-Right : goal.returns-in_ok-copy_value-in-Right
returns-in_ok-copy_value-in-Right c = of_attrs c.args.only_left.now c.args.only_right.now c.args.left.attr.now.value c.args.right.attr.now.value c.args.left.marks.now c.args.right.marks.now c.same_value-equal.result c.same_value-equal.ensures Right c.in-Right.ensures _ (ap (λ x. Settled (AttrValue x)) (sym c.in_ok-copy_value-in-Right.ensures))

pub returns-in_ok-copy_value-in-Clash-2 : goal.returns-in_ok-copy_value-in-Clash-2
returns-in_ok-copy_value-in-Clash-2 c = of_attrs c.args.only_left.now c.args.only_right.now c.args.left.attr.now.value c.args.right.attr.now.value c.args.left.marks.now c.args.right.marks.now c.same_value-equal.result c.same_value-equal.ensures Clash c.in-Clash.ensures _ (λ i. Clashing (AttrValue (sym c.in_ok-copy_value-in-Clash.ensures i)) (AttrValue (sym c.in_ok-copy_value-in-Clash-2.ensures i)))
