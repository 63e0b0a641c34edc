use Rattle.std.proofs.Common.{◌≡◌, ◌↔◌, ℕ, ◌<◌, ◌≤◌, length}
use Rattle.mtn_ancestry.specs.Sets.{IsFlagged, IsFlaggedIn}
use Rattle.mtn_ancestry.proofs.words.keep_full.Given as goal

abbrev pub invariant-loop-at : goal.invariant-loop-at
invariant-loop-at l = record {
  count : length l.flags ≡ length l.words;
  done : (x : ℕ) → x < l.at → IsFlagged l.flags x ↔ (IsFlagged l.initial.flags x × ((j : ℕ) → j < l.sets → IsFlaggedIn l.words j x));
  rest : (x : ℕ) → l.at ≤ x → IsFlagged l.flags x ↔ IsFlagged l.initial.flags x;
}
