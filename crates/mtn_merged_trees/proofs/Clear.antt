-- The tree of a merge without conflicts shows what acceptance asks.
use Rattle.std.proofs.Common.{◌≡◌, ℕ, List, Some}
use Rattle.mtn_base.specs.declared.id.Id.{Id}
use Rattle.mtn_history_laws.specs.History.{Revision, tree_at, IsGrown}
use Rattle.mtn_model.specs.State.{Logged}
use Rattle.mtn_model.specs.Table.{Table}
use Rattle.mtn_changeset_laws.specs.Laws.{IsFresh, NoneBornIn}
use Rattle.mtn_changeset_laws.proofs.Stepping.{unborn_at}
use Rattle.mtn_replay.specs.Making.{place_of, is_above}
use Rattle.mtn_replay.specs.Lawful.{IsHistory}
use Rattle.mtn_replay.proofs.Histories.{history_is_grown}
use Rattle.mtn_replay.proofs.Places.{above_tells}
use Rattle.mtn_decide.specs.Decisions.{Merge, IsInOrder}
use Rattle.mtn_decide.specs.Graph.{IsMergeOf}
use Rattle.mtn_conflicts.specs.declared.lists.Conflicts.{Conflicts}
use Rattle.mtn_conflicts.specs.Lists.{AreConflictsOf, IsNone}
use Rattle.mtn_conflicts.specs.Result.{result_of}
use Rattle.mtn_conflicts.proofs.Clear.{tidy}
use Rattle.mtn_conflicts.proofs.Directories.{parents_are_dirs, none_born}
use Rattle.mtn_between.specs.Merging.{IsMerged}
use Rattle.mtn_merging.proofs.Spelled.{all_spell}
use Rattle.mtn_merged_trees.proofs.Decided.{of_sides}
use Rattle.mtn_merged_trees.proofs.Merged.{merged}

module _ (f : List ℕ → List ℕ) (files : Table) (log : List Logged) (h : List Revision) (is : IsHistory f files log h) where
  grown : IsGrown h
  grown = history_is_grown f files log h is

  pub shown : (a b new : Id) (p q : ℕ) (m : Merge) (c : Conflicts) → place_of h a ≡ Some p → place_of h b ≡ Some q → IsFresh h new →
      IsInOrder m → IsMergeOf h p q m → AreConflictsOf m c → IsNone c →
      IsMerged (tree_at h p) (tree_at h q) new (is_above h (Some a)) (is_above h (Some b)) (result_of m new)
  shown a b new p q m c ia ib fresh order by are none =
      let unborn_left : NoneBornIn (tree_at h p) new = unborn_at h p new grown.born fresh in
      let unborn_right : NoneBornIn (tree_at h q) new = unborn_at h q new grown.born fresh in
      merged (tree_at h p) (tree_at h q) new (is_above h (Some a)) (is_above h (Some b)) m order (tidy m c order are none)
      (parents_are_dirs h grown p q m order by) (none_born h p q m new by unborn_left unborn_right) unborn_left unborn_right
      (of_sides h p q m grown order by (all_spell f files log h is p) (all_spell f files log h is q) (is_above h (Some a)) (is_above h (Some b))
      (above_tells h grown.earlier a p ia) (above_tells h grown.earlier b q ib))
