use Rattle.std.proofs.Common.{arith}
use Rattle.mtn_history.proofs.Nearest.{cut_below, cut_next, less_below, less_next}
use Rattle.mtn_history.proofs.draft.just_below.Goals as goal

pub returns-then-below-eq0-clause-above : goal.returns-then-below-eq0-clause-above
returns-then-below-eq0-clause-above c = cut_below 19 c.args.key.now (c.told-key)

pub returns-then-below-eq0-clause-next : goal.returns-then-below-eq0-clause-next
returns-then-below-eq0-clause-next c = λ other long below above. cut_next 19 c.args.key.now other (c.told-key) c.if-below-eq0.true below above

pub returns-clause-above : goal.returns-clause-above
returns-clause-above c = less_below 19 c.args.key.now (c.told-key) (omega (arith, c.if-below-eq0.false))

pub returns-clause-next : goal.returns-clause-next
returns-clause-next c = λ other long below above. less_next 19 c.args.key.now other (c.told-key) long (omega (arith, c.if-below-eq0.false)) below above
