use Rattle.std.proofs.Common.{rules, sym, subst}
use Rattle.mtn_history.specs.Rosters.{Rebuilds}
use Rattle.mtn_history.proofs.RosterLemmas.{rebuilt_spelled, none_spelled}
use Rattle.mtn_history.proofs.chains.roster_of.Goals as goal

pub returns-in_err-roster-clause-bad : goal.returns-in_err-roster-clause-bad
returns-in_err-roster-clause-bad c = λ is k at are. none_spelled k at c.args.base.entries c.args.base.depth are (c.in_err-roster.ensures.bad (search rules))

pub returns-clause-rebuilt : goal.returns-clause-rebuilt
returns-clause-rebuilt c = λ k at are.
    subst (Rebuilds k at) (sym c.in_ok-new.ensures) (rebuilt_spelled k at c.args.base.entries c.args.base.depth are c.in_ok-roster.roster c.in_ok-roster.ensures.spelled)
