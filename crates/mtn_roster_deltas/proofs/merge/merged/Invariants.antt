use Rattle.std.proofs.Common.{◌+◌}
use Rattle.std.specs.VecDeque.{deque_len}
use Rattle.mtn_roster_deltas.specs.Chain.{with_all}
use Rattle.mtn_roster_deltas.specs.Parts.{MergesTo}
use Rattle.mtn_roster_deltas.proofs.merge.merged.Given as goal

abbrev pub invariant-loop-entry : goal.invariant-loop-entry
invariant-loop-entry l = MergesTo (with_all l.initial.changed.items l.initial.entries.items) l.all.items l.entries.items l.changed.items

abbrev pub decreases-loop-entry : goal.decreases-loop-entry
decreases-loop-entry l = deque_len l.entries + deque_len l.changed
