use Rattle.std.specs.VecDeque.{deque_len}
use Rattle.mtn_roster_deltas.specs.Chain.{after_all}
use Rattle.mtn_roster_deltas.specs.Parts.{GoesOn}
use Rattle.mtn_roster_deltas.proofs.chain.follow_all.Given as goal

abbrev pub invariant-loop-next : goal.invariant-loop-next
invariant-loop-next l = GoesOn (after_all l.fn.depth l.fn.entries.items l.fn.records.items) l.depth l.entries.items l.records.items

abbrev pub decreases-loop-next : goal.decreases-loop-next
decreases-loop-next l = deque_len l.records
