use Rattle.std.proofs.Common.{◌<◌, ◌≤◌, ℕ, Contains, take}
use Rattle.mtn_merge.proofs.births.least_missing.Given as goal

abbrev pub invariant-loop-number : goal.invariant-loop-number
invariant-loop-number l = record {
  low : l.least ≤ l.number-index;
  below : (n : ℕ) → Contains (take l.number-index l.numbers) n → n < l.least;
}
