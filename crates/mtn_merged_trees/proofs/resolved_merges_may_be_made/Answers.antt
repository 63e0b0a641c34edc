use Rattle.mtn_merged_trees.proofs.Again.{dirs_again, fresh_again}
use Rattle.mtn_merged_trees.proofs.resolved_merges_may_be_made.Goals as goal

pub returns : goal.returns
returns _ = record {
  dirs = λ h p q m c rs grown order by fit. dirs_again h p q m rs by grown order c fit;
  fresh = λ h p q m rs id by left right. fresh_again h p q m rs by id left right;
}
