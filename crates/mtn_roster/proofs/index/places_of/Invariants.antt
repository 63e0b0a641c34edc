use Rattle.std.proofs.Common.{◌≡◌, ◌<◌, ℕ, length, get_or}
use Rattle.mtn_roster.proofs.index.places_of.Given as goal

abbrev pub invariant-loop-at : goal.invariant-loop-at
invariant-loop-at l = (length l.places.items ≡ l.at) × ((k d : ℕ) → k < l.at → get_or l.places.items k d ≡ k)
