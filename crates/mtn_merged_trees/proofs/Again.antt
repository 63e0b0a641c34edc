-- After resolutions too the tree of a merge without conflicts shows what acceptance asks.
use Rattle.std.proofs.Common.{◌≡◌, ℕ, List, [], Some}
use Rattle.mtn_base.specs.declared.id.Id.{Id}
use Rattle.mtn_history_laws.specs.History.{Revision, tree_at, IsGrown}
use Rattle.mtn_model.specs.State.{Logged}
use Rattle.mtn_model.specs.Table.{Table}
use Rattle.mtn_roster.specs.Tree.{IsSane}
use Rattle.mtn_changeset_laws.specs.Laws.{IsFresh, NoneBornIn}
use Rattle.mtn_changeset_laws.proofs.Stepping.{unborn_at}
use Rattle.mtn_manifest.specs.Manifest.{manifest_of}
use Rattle.mtn_replay.specs.Making.{place_of, is_above, too_long, too_many}
use Rattle.mtn_replay.specs.Lawful.{IsHistory}
use Rattle.mtn_replay.proofs.Histories.{history_is_grown}
use Rattle.mtn_replay.proofs.Places.{above_tells}
use Rattle.mtn_decide.specs.Decisions.{Merge, IsInOrder}
use Rattle.mtn_decide.specs.Graph.{IsMergeOf}
use Rattle.mtn_conflicts.specs.declared.lists.Conflicts.{Conflicts}
use Rattle.mtn_conflicts.specs.Lists.{AreConflictsOf, IsNone}
use Rattle.mtn_conflicts.specs.Result.{result_of, ParentsAreDirs, NoneBornIn as NoneDecidedIn}
use Rattle.mtn_conflicts.proofs.Clear.{tidy, IsTidy}
use Rattle.mtn_conflicts.proofs.Renamed.{merged_is_sane}
use Rattle.mtn_between.specs.Merging.{IsMerged}
use Rattle.mtn_between.specs.Twins.{IsTwinOf, shown}
use Rattle.mtn_between.proofs.Twinned.{shown_same}
use Rattle.mtn_merging.specs.MergeEdges.{merge_edges}
use Rattle.mtn_merging.proofs.Accepted.{sane_at}
use Rattle.mtn_merging.proofs.OneText.{edges_same, manifests_same}
use Rattle.mtn_merging.proofs.Spelled.{all_spell}
use Rattle.mtn_resolve.specs.declared.resolution.Resolution.{Resolution}
use Rattle.mtn_resolve.specs.Faults.{AreFitting}
use Rattle.mtn_resolve.specs.Overriding.{overridden}
use Rattle.mtn_resolve.specs.Texts.{AreResolutions}
use Rattle.mtn_resolve.proofs.Candidates as candidate
use Rattle.mtn_resolve.proofs.Ordered.{in_order}
use Rattle.mtn_resolve.proofs.Staying as staying
use Rattle.mtn_merged_trees.proofs.Limits.{long_same, many_same}
use Rattle.mtn_merged_trees.proofs.Merged.{merged}
use Rattle.mtn_merged_trees.proofs.Resolved.{resolved}
use Rattle.mtn_merged_trees.proofs.Twinned.{twins}

module _ (h : List Revision) (p q : ℕ) (m : Merge) (rs : List Resolution) (by : IsMergeOf h p q m) where
  pub fresh_again : (id : Id) → NoneBornIn (tree_at h p) id → NoneBornIn (tree_at h q) id → NoneDecidedIn (overridden rs m).nodes id
  fresh_again id left right = staying.none_born m rs id (candidate.none_born h p q m id by left right)

  module _ (grown : IsGrown h) (order : IsInOrder m) (c : Conflicts) (fit : AreFitting m c rs) where
    pub dirs_again : ParentsAreDirs (overridden rs m).nodes
    dirs_again = staying.parents_are_dirs m c rs fit (candidate.candidates_are_dirs h grown p q m order by)

module _ (f : List ℕ → List ℕ) (files : Table) (log : List Logged) (h : List Revision) (is : IsHistory f files log h)
    (a b : Id) (p q : ℕ) (ia : place_of h a ≡ Some p) (ib : place_of h b ≡ Some q)
    (m : Merge) (c d : Conflicts) (rs : List Resolution) (order : IsInOrder m) (by : IsMergeOf h p q m) (fit : AreFitting m c rs)
    (are : AreConflictsOf (overridden rs m) d) (none : IsNone d) where
  grown : IsGrown h
  grown = history_is_grown f files log h is

  pub order_again : IsInOrder (overridden rs m)
  order_again = in_order m rs order

  pub tidy_again : IsTidy (overridden rs m).nodes
  tidy_again = tidy (overridden rs m) d order_again are none

  dirs : ParentsAreDirs (overridden rs m).nodes
  dirs = dirs_again h p q m rs by grown order c fit

  fresh : (id : Id) → NoneBornIn (tree_at h p) id → NoneBornIn (tree_at h q) id → NoneDecidedIn (overridden rs m).nodes id
  fresh = fresh_again h p q m rs by

  pub shown_again : (new : Id) → IsFresh h new → AreResolutions [] rs →
      IsMerged (tree_at h p) (tree_at h q) new (is_above h (Some a)) (is_above h (Some b)) (result_of (overridden rs m) new)
  shown_again new unborn lawful =
      let unborn_left : NoneBornIn (tree_at h p) new = unborn_at h p new grown.born unborn in
      let unborn_right : NoneBornIn (tree_at h q) new = unborn_at h q new grown.born unborn in
      merged (tree_at h p) (tree_at h q) new (is_above h (Some a)) (is_above h (Some b)) (overridden rs m) order_again tidy_again
      dirs (fresh new unborn_left unborn_right) unborn_left unborn_right
      (resolved h p q m grown order by c rs fit lawful (all_spell f files log h is p) (all_spell f files log h is q) (is_above h (Some a)) (is_above h (Some b))
      (above_tells h grown.earlier a p ia) (above_tells h grown.earlier b q ib))

  module _ (x y : Id) (lx : NoneBornIn (tree_at h p) x) (rx : NoneBornIn (tree_at h q) x) (ly : NoneBornIn (tree_at h p) y) (ry : NoneBornIn (tree_at h q) y) where
    pub sane : (id : Id) → NoneBornIn (tree_at h p) id → NoneBornIn (tree_at h q) id → IsSane (result_of (overridden rs m) id)
    sane id left right = merged_is_sane (overridden rs m) d id order_again are none dirs (fresh id left right)

    left_twins : IsTwinOf (tree_at h p) (result_of (overridden rs m) x) (result_of (overridden rs m) y)
    left_twins = twins (tree_at h p) (overridden rs m) order_again tidy_again dirs x y (fresh x lx rx) (fresh y ly ry) lx ly

    right_twins : IsTwinOf (tree_at h q) (result_of (overridden rs m) x) (result_of (overridden rs m) y)
    right_twins = twins (tree_at h q) (overridden rs m) order_again tidy_again dirs x y (fresh x lx rx) (fresh y ly ry) rx ry

    pub edges_again : merge_edges h a b (result_of (overridden rs m) x) ≡ merge_edges h a b (result_of (overridden rs m) y)
    edges_again = edges_same f files log h is a b p q (result_of (overridden rs m) x) (result_of (overridden rs m) y) ia ib (sane x lx rx) (sane y ly ry) left_twins right_twins

    pub manifest_again : manifest_of (result_of (overridden rs m) x) ≡ manifest_of (result_of (overridden rs m) y)
    manifest_again = manifests_same (tree_at h p) (result_of (overridden rs m) x) (result_of (overridden rs m) y) (sane_at f files log h is a p ia) (sane x lx rx) (sane y ly ry) left_twins

    shown_same_again : shown (result_of (overridden rs m) x) ≡ shown (result_of (overridden rs m) y)
    shown_same_again = shown_same (tree_at h p) (result_of (overridden rs m) x) (result_of (overridden rs m) y) (sane_at f files log h is a p ia) (sane x lx rx) (sane y ly ry) left_twins

    pub many_again : too_many (result_of (overridden rs m) x) ≡ too_many (result_of (overridden rs m) y)
    many_again = many_same (result_of (overridden rs m) x) (result_of (overridden rs m) y) shown_same_again (sane x lx rx) (sane y ly ry)

    pub long_again : too_long (result_of (overridden rs m) x) ≡ too_long (result_of (overridden rs m) y)
    long_again = long_same (result_of (overridden rs m) x) (result_of (overridden rs m) y) shown_same_again
