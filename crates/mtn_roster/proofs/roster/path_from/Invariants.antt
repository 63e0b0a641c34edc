use Rattle.std.proofs.Common.{◌≡◌, ◌<◌, ◌++◌, map, reverse, length, vec_len}
use Rattle.mtn_roster.specs.Walk.{path_at}
use Rattle.mtn_roster.proofs.roster.path_from.Given as goal

abbrev pub invariant-loop-at : goal.invariant-loop-at
invariant-loop-at l = (l.at < length l.entries) × (path_at l.entries l.fn.place ≡ path_at l.entries l.at ++ reverse (map (λ b. b.now) l.names.items))

abbrev pub decreases-loop-at : goal.decreases-loop-at
decreases-loop-at l = length (path_at l.entries l.at)

abbrev pub invariant-loop-name : goal.invariant-loop-name
invariant-loop-name l = path_at l.entries l.fn.place ≡ l.path ++ reverse (map (λ b. b.now) l.names.items)

abbrev pub decreases-loop-name : goal.decreases-loop-name
decreases-loop-name l = vec_len l.names
