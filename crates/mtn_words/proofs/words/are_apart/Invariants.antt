use Rattle.std.proofs.Common.{◌≤◌, length, drop, map}
use Rattle.mtn_words.proofs.WordsLemmas.{Seen}
use Rattle.mtn_words.proofs.words.are_apart.Given as goal

abbrev pub invariant-loop-left : goal.invariant-loop-left
invariant-loop-left l = record {
  inside : l.left ≤ length l.options;
  seen : Seen l.names (map (λ o. o.name) (drop l.left l.options));
}

abbrev pub decreases-loop-left : goal.decreases-loop-left
decreases-loop-left l = l.left
