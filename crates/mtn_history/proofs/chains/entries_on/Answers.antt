use Rattle.std.proofs.Common.{rules}
use Rattle.mtn_history.proofs.RosterLemmas.{entries_rebuilt}
use Rattle.mtn_history.proofs.chains.entries_on.Goals as goal

pub returns-in_err-entries-clause-bad : goal.returns-in_err-entries-clause-bad
returns-in_err-entries-clause-bad c = λ is k at up. c.in_err-entries.ensures.bad (search rules) k at up

pub returns-clause-right : goal.returns-clause-right
returns-clause-right c = λ k at up.
    entries_rebuilt k at (record { entries = c.in_ok-entries.entries; roster = c.in_ok-entries._roster; depth = c.in_ok-entries.depth }) (c.in_ok-entries.ensures.rebuilt k at up)
