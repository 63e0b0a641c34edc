use Rattle.std.proofs.Common.{◌≡◌, map, take}
use Rattle.mtn_changes.proofs.sorting.refs_of.Given as goal

abbrev pub invariant-loop-change : goal.invariant-loop-change
invariant-loop-change l = map (λ b. b.now) l.refs.items ≡ take l.change-index l.changes
