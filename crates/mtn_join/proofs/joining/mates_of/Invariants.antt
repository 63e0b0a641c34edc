use Rattle.std.proofs.Common.{◌≡◌, ◌<◌, ℕ, length, vec_len, Some}
use Rattle.std.specs.Prelude.{slice_get, slice_index}
use Rattle.mtn_roster.specs.declared.walk.Stop.{Stop}
use Rattle.mtn_join.proofs.joining.mates_of.Given as goal

abbrev pub invariant-loop-at : goal.invariant-loop-at
invariant-loop-at l =
    (vec_len l.mates ≡ length l.left)
    × (length l.mates.items ≡ length l.left)
    × ((j : ℕ) (s u : Stop) → j < l.at → slice_get l.walk j ≡ Some s → slice_get l.beside j ≡ Some u → slice_index l.mates.items s.place ≡ u.place)
