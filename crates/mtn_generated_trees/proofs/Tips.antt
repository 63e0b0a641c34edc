-- A patch, and an attribute that is set beside it, make tips.
use Rattle.std.proofs.Common.{◌≡◌, ◌≢◌, ℕ, List, [], ◌∷◌, ◌∙◌, ap}
use Rattle.mtn_base.specs.declared.id.Id.{Id}
use Rattle.mtn_changes.specs.declared.change.Change.TheVariants.{Patch, Set}
use Rattle.mtn_changeset_laws.specs.Changes.{tree_after}
use Rattle.mtn_generated_laws.proofs.Sides.{patch_keeps_attr, patch_keeps_slot, set_keeps_content, set_keeps_slot}
use Rattle.mtn_history_laws.specs.History.{Revision, parents_at, tree_at}
use Rattle.mtn_history_laws.specs.Scalars.{value_in}
use Rattle.mtn_history_laws.specs.Scalars.Scalar.{AttrOf, ContentOf, SlotOf}
use Rattle.mtn_generated_trees.specs.Joining.{AreTips}

module _ (h : List Revision) (parent left right : ℕ) (p q : List (List ℕ)) (from to x y : Id) (key value : List ℕ) (differ : left ≢ right)
    (of_left : parents_at h left ≡ parent ∷ []) (of_right : parents_at h right ≡ parent ∷ [])
    (patches : tree_at h left ≡ tree_after (tree_at h parent) (Patch p from to ∷ []) x) (sets : tree_at h right ≡ tree_after (tree_at h parent) (Set q key value ∷ []) y) where
  pub are_tips : AreTips h parent left right
  are_tips = record {
    differ = differ;
    left_parent = of_left;
    right_parent = of_right;
    left_slots = λ n. ap (λ t. value_in t (SlotOf n)) patches ∙ patch_keeps_slot (tree_at h parent) x p from to n;
    right_slots = λ n. ap (λ t. value_in t (SlotOf n)) sets ∙ set_keeps_slot (tree_at h parent) y q key value n;
    left_attrs = λ n k. ap (λ t. value_in t (AttrOf n k)) patches ∙ patch_keeps_attr (tree_at h parent) x p from to n k;
    right_contents = λ n. ap (λ t. value_in t (ContentOf n)) sets ∙ set_keeps_content (tree_at h parent) y q key value n;
  }
