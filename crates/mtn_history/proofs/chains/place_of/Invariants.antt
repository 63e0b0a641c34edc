use Rattle.std.proofs.Common.{◌≡◌, ◌<◌, ℕ, Some, drop}
use Rattle.std.specs.Prelude.{slice_get}
use Rattle.mtn_history.specs.Rosters.{places}
use Rattle.mtn_history.proofs.chains.place_of.Given as goal

abbrev pub invariant-loop-place : goal.invariant-loop-place
invariant-loop-place l = record {
  along : drop l.place (places l.fn.top l.records) ≡ places l.next (drop l.place l.records);
  none : (k : ℕ) → k < l.place → slice_get (places l.fn.top l.records) k ≡ Some l.at → ⊥;
}
