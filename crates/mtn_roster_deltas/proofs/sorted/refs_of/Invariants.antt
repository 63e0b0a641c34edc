use Rattle.std.proofs.Common.{◌≡◌, map, take}
use Rattle.mtn_roster_deltas.proofs.sorted.refs_of.Given as goal

abbrev pub invariant-loop-entry : goal.invariant-loop-entry
invariant-loop-entry l = map (λ b. b.now) l.refs.items ≡ take l.entry-index l.entries
