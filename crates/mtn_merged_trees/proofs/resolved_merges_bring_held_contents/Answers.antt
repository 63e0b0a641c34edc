-- What is accepted is held, and what a merge decides is one side's or picked.
use Rattle.mtn_merged_trees.proofs.Contents.{contents_again}
use Rattle.mtn_merged_trees.proofs.Held.{trees_are_held}
use Rattle.mtn_merged_trees.proofs.resolved_merges_bring_held_contents.Goals as goal

pub returns : goal.returns
returns _ = record {
  trees = λ f files log h p n e content is k b. trees_are_held f files log h is p n e content k b;
  merges = λ f files log h a b x p q m c d rs is ia ib order by fit are none picks lx rx. contents_again f files log h is a b p q ia ib m order by rs picks c d fit are none x lx rx;
}
