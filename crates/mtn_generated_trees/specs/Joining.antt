-- What a merge makes of two tips: left has a patch, and right an attribute.
use Rattle.std.specs.Prelude.{◌≡◌, ◌≢◌, ◌⊎◌, ℕ, List, [], ◌∷◌}
use Rattle.mtn_base.specs.declared.name.NodeName.{NodeName}
use Rattle.mtn_decide.specs.Decisions.{IsInOrder, Merge}
use Rattle.mtn_decide.specs.Graph.{IsMergeOf}
use Rattle.mtn_history_laws.specs.History.{Revision, parents_at}
use Rattle.mtn_history_laws.specs.Scalars.{value_at, value_in}
use Rattle.mtn_history_laws.specs.Scalars.Scalar.{AttrOf, ContentOf, SlotOf}
use Rattle.mtn_roster.specs.Tree.{Tree}

-- Two children of one revision, of which none is the other: both have its slots, left its attributes, and right its contents
pub record AreTips (h : List Revision) (parent left right : ℕ) : Type 0 where
  pub differ : left ≢ right
  pub left_parent : parents_at h left ≡ parent ∷ []
  pub right_parent : parents_at h right ≡ parent ∷ []
  pub left_slots : (n : NodeName) → value_at h (SlotOf n) left ≡ value_at h (SlotOf n) parent
  pub right_slots : (n : NodeName) → value_at h (SlotOf n) right ≡ value_at h (SlotOf n) parent
  pub left_attrs : (n : NodeName) (k : List ℕ) → value_at h (AttrOf n k) left ≡ value_at h (AttrOf n k) parent
  pub right_contents : (n : NodeName) → value_at h (ContentOf n) right ≡ value_at h (ContentOf n) parent

-- a merge of the two, whichever of them is its left side
pub record MergesThem (h : List Revision) (left right : ℕ) (m : Merge) : Type 0 where
  pub order : IsInOrder m
  pub decides : IsMergeOf h left right m ⊎ IsMergeOf h right left m

-- The tree has the slots of both, the contents of left and the attributes of right
pub record IsUnion (left right t : Tree) : Type 0 where
  pub left_slots : (n : NodeName) → value_in t (SlotOf n) ≡ value_in left (SlotOf n)
  pub right_slots : (n : NodeName) → value_in t (SlotOf n) ≡ value_in right (SlotOf n)
  pub contents : (n : NodeName) → value_in t (ContentOf n) ≡ value_in left (ContentOf n)
  pub attrs : (n : NodeName) (k : List ℕ) → value_in t (AttrOf n k) ≡ value_in right (AttrOf n k)
