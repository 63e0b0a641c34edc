use Rattle.std.proofs.Common.{arith, rules}
use Rattle.mtn_history.proofs.RosterLemmas.{entries_whole, none_whole, rebuilt_short, rebuilt_some}
use Rattle.mtn_history.proofs.chains.entries_at.Goals as goal

pub returns-in_err-entries-clause-bad : goal.returns-in_err-entries-clause-bad
returns-in_err-entries-clause-bad c = λ is k at down. none_whole k at c.args.records.items down (c.in_err-entries.ensures.bad (search rules))

pub overflow_cast-result : goal.overflow_cast-result
overflow_cast-result c = let short = rebuilt_short c.args.records.items c.in_ok-entries.entries c.in_ok-entries.ensures.ok in omega (arith, short, c.len-count.ensures)

pub overflow_sub-result : goal.overflow_sub-result
overflow_sub-result c = let some = rebuilt_some c.args.records.items c.in_ok-entries.entries c.in_ok-entries.ensures.ok in omega (arith, some, c.len-count.ensures)

pub returns-clause-right : goal.returns-clause-right
returns-clause-right c = λ k at down.
    let some = rebuilt_some c.args.records.items c.in_ok-entries.entries c.in_ok-entries.ensures.ok in
    entries_whole k at c.args.records.items down c.in_ok-entries.entries _ c.in_ok-entries.ensures.ok c.in_ok-entries.ensures.ascending (omega (arith, some, c.len-count.ensures))
