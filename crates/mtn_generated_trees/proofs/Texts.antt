-- The text of a merge of small trees is short.
use Rattle.std.proofs.Common.{◌≡◌, ◌≤◌, ℕ, List, length, Some, refl}
use Rattle.mtn_base.specs.Hex.{id_of}
use Rattle.mtn_base.specs.declared.id.Id.{Id}
use Rattle.mtn_basic_io.specs.Spelling.{spelling}
use Rattle.mtn_history_laws.specs.History.{Revision}
use Rattle.mtn_manifest.specs.Manifest.{manifest_of}
use Rattle.mtn_merging.specs.MergeEdges.{edge_to}
use Rattle.mtn_order.specs.Free.{MakesIds}
use Rattle.mtn_plans.specs.Plans.{merge_text}
use Rattle.mtn_replay.specs.Making.{parent_tree}
use Rattle.mtn_roster.specs.Tree.{IsSane, Tree}
use Rattle.mtn_generated_trees.proofs.Lengths.{IsShortEdge, text_short}
use Rattle.mtn_generated_trees.proofs.Small.{IsSmall, each_short, few_changes}

module _ (f : List ℕ → List ℕ) (ids : MakesIds f) (h : List Revision) (t : Tree) (sane : IsSane t) (small : IsSmall t) where
  edge_short : (id : Id) → length id.0 ≡ 20 → IsSane (parent_tree h (Some id)) → IsSmall (parent_tree h (Some id)) → IsShortEdge (edge_to h id t)
  edge_short id twenty so few = record {
    parent = id;
    has_parent = refl;
    twenty = twenty;
    few = few_changes (parent_tree h (Some id)) t so sane few small;
    changes = each_short (parent_tree h (Some id)) t so sane few small;
  }

  pub merge_short : (a b : Id) → length a.0 ≡ 20 → length b.0 ≡ 20 → IsSane (parent_tree h (Some a)) → IsSane (parent_tree h (Some b)) →
      IsSmall (parent_tree h (Some a)) → IsSmall (parent_tree h (Some b)) → length (merge_text f h a b t) ≤ 67108864
  merge_short a b ta tb sa sb la lb =
      text_short (id_of (f (spelling (manifest_of t)))) (edge_to h a t) (edge_to h b t) (ids (spelling (manifest_of t))).twenty (edge_short a ta sa la) (edge_short b tb sb lb)
