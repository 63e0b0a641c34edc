-- The trees of the parents are sides of the merge.
use Rattle.mtn_replay.proofs.Places.{no_place}
use Rattle.mtn_merging.proofs.Accepted.{made_is, accepted_is}
use Rattle.mtn_merging.proofs.merges_are_accepted.Goals as goal

pub returns : goal.returns
returns c = record {
  made = λ f files log h a b new p q t is ia ib fresh m. made_is f files log h is a b p q ia ib t new (no_place h new fresh) m;
  accepted = λ f files log h a b new manifest p q t is ia ib fresh m. accepted_is f files log h is a b p q ia ib t new (no_place h new fresh) m manifest;
}
