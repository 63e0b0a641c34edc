use Rattle.std.proofs.Common.{◌≡◌, length}
use Rattle.mtn_ancestry.proofs.Joining.{IsEachFlagged}
use Rattle.mtn_ancestry.proofs.words.flag_each.Given as goal

abbrev pub invariant-loop-set : goal.invariant-loop-set
invariant-loop-set l = record {
  count : length l.words ≡ length l.initial.words;
  each : IsEachFlagged l.words l.set l.of;
}
