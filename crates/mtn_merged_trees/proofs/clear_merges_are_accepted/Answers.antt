-- What is decided is of the sides, so the tree that it makes is that of a merge.
use Rattle.mtn_replay.proofs.Places.{no_place}
use Rattle.mtn_conflicts.specs.Result.{result_of}
use Rattle.mtn_merging.proofs.Accepted.{made_is, accepted_is}
use Rattle.mtn_merged_trees.proofs.Clear.{shown}
use Rattle.mtn_merged_trees.proofs.clear_merges_are_accepted.Goals as goal

pub returns : goal.returns
returns c = record {
  made = λ f files log h a b new p q m cs is ia ib fresh order by are none.
      made_is f files log h is a b p q ia ib (result_of m new) new (no_place h new fresh) (shown f files log h is a b new p q m cs ia ib (no_place h new fresh) order by are none);
  accepted = λ f files log h a b new manifest p q m cs is ia ib fresh order by are none.
      accepted_is f files log h is a b p q ia ib (result_of m new) new (no_place h new fresh) (shown f files log h is a b new p q m cs ia ib (no_place h new fresh) order by are none) manifest;
}
