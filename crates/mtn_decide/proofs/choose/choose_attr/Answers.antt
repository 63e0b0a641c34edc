use Rattle.std.proofs.Common.{ap, sym}
use Rattle.mtn_history_laws.specs.Scalars.Value.{AttrValue}
use Rattle.mtn_decide.specs.Verdicts.Verdict.{Settled}
use Rattle.mtn_decide.proofs.Choosing.{attr_of_left, attr_of_right}
use Rattle.mtn_decide.proofs.choose.choose_attr.Goals as goal

pub returns-in_ok-copy_value-in-Left : goal.returns-in_ok-copy_value-in-Left
returns-in_ok-copy_value-in-Left c = attr_of_left c.args.only_left.now c.args.only_right.now c.args.turn c.in-Left.left c.in-Left.is _ (ap (λ x. Settled (AttrValue x)) (sym c.in_ok-copy_value-in-Left.ensures))

pub returns-in_ok-copy_value-in-Right : goal.returns-in_ok-copy_value-in-Right
returns-in_ok-copy_value-in-Right c = attr_of_right c.args.only_left.now c.args.only_right.now c.args.turn c.in-Right.right c.in-Right.is _ (ap (λ x. Settled (AttrValue x)) (sym c.in_ok-copy_value-in-Right.ensures))
