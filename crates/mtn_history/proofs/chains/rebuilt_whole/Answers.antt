use Rattle.std.proofs.Common.{rules}
use Rattle.mtn_history.proofs.chains.rebuilt_whole.Goals as goal

pub returns-in_err-base-clause-bad : goal.returns-in_err-base-clause-bad
returns-in_err-base-clause-bad c = λ is k at down. c.in_err-base.ensures.bad (search rules) k at down

pub returns-clause-rebuilt : goal.returns-clause-rebuilt
returns-clause-rebuilt c = λ k at down. c.roster_of.ensures.rebuilt k at (c.in_ok-base.ensures.right k at down)

pub returns-clause-bad : goal.returns-clause-bad
returns-clause-bad c = λ is k at down. c.roster_of.ensures.bad is k at (c.in_ok-base.ensures.right k at down)
