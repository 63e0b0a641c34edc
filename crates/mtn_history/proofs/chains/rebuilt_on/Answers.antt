use Rattle.std.proofs.Common.{rules, sym, subst}
use Rattle.mtn_history.specs.Rosters.{Rebuilds}
use Rattle.mtn_history.proofs.chains.rebuilt_on.Goals as goal

pub returns-in_err-entries-clause-bad : goal.returns-in_err-entries-clause-bad
returns-in_err-entries-clause-bad c = λ is k at up. c.in_err-entries.ensures.bad (search rules) k at up

pub returns-clause-rebuilt : goal.returns-clause-rebuilt
returns-clause-rebuilt c = λ k at up. subst (Rebuilds k at) (sym c.in_ok-new.ensures) (c.in_ok-entries.ensures.rebuilt k at up)
