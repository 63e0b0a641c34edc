use Rattle.std.proofs.Common.{◌≡◌, ℕ, List, None, take}
use Rattle.mtn_imports.specs.Imports.{first_mismatch}
use Rattle.mtn_reading.specs.Heads.{AreIds, packets_at}
use Rattle.mtn_reading.proofs.matched.first_of.Given as goal

abbrev pub invariant-loop-head : goal.invariant-loop-head
invariant-loop-head l = record {
  number : l.number ≡ l.head-index;
  none : (f : List ℕ → List ℕ) (payloads : List (List ℕ)) → AreIds f payloads l.ids → first_mismatch f 1 (packets_at payloads (take l.head-index l.heads)) ≡ None;
}
