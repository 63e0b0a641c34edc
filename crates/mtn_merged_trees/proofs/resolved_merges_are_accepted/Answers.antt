-- What is decided after resolutions is of the sides, so the tree that it makes is that of a merge.
use Rattle.mtn_replay.proofs.Places.{no_place}
use Rattle.mtn_conflicts.specs.Result.{result_of}
use Rattle.mtn_merging.proofs.Accepted.{made_is, accepted_is}
use Rattle.mtn_resolve.specs.Overriding.{overridden}
use Rattle.mtn_merged_trees.proofs.Again.{shown_again}
use Rattle.mtn_merged_trees.proofs.resolved_merges_are_accepted.Goals as goal

pub returns : goal.returns
returns _ = record {
  made = λ f files log h a b new p q m c d rs is ia ib fresh order by fit lawful are none.
      made_is f files log h is a b p q ia ib (result_of (overridden rs m) new) new (no_place h new fresh)
      (shown_again f files log h is a b p q ia ib m c d rs order by fit are none new (no_place h new fresh) lawful);
  accepted = λ f files log h a b new manifest p q m c d rs is ia ib fresh order by fit lawful are none.
      accepted_is f files log h is a b p q ia ib (result_of (overridden rs m) new) new (no_place h new fresh)
      (shown_again f files log h is a b p q ia ib m c d rs order by fit are none new (no_place h new fresh) lawful) manifest;
}
