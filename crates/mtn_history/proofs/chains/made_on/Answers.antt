use Rattle.std.proofs.Common.{arith, rules}
use Rattle.mtn_history.proofs.RosterLemmas.{depth_fits, rebuilt_above, none_above}
use Rattle.mtn_history.proofs.chains.made_on.Goals as goal

pub returns-in_err-entries-clause-bad : goal.returns-in_err-entries-clause-bad
returns-in_err-entries-clause-bad c = λ is k at up. none_above k at c.args.deltas.items c.args.base up (c.in_err-entries.ensures.bad (search rules))

pub overflow_cast-result : goal.overflow_cast-result
overflow_cast-result c =
    let fits = depth_fits c.args.base.depth c.args.base.entries _ c.args.deltas.items (omega arith) c.in_ok-entries.ensures.entries in
    omega (arith, fits, c.len-count.ensures)

pub overflow_add-result : goal.overflow_add-result
overflow_add-result c =
    let fits = depth_fits c.args.base.depth c.args.base.entries _ c.args.deltas.items (omega arith) c.in_ok-entries.ensures.entries in
    omega (arith, fits, c.len-count.ensures)

pub returns-clause-rebuilt : goal.returns-clause-rebuilt
returns-clause-rebuilt c = λ k at up.
    rebuilt_above k at c.args.deltas.items c.args.base up _ _ _ c.in_ok-entries.ensures.entries c.in_ok-entries.ensures.spelled (omega (arith, c.len-count.ensures))
