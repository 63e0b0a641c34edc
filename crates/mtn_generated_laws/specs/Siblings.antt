-- Two children of one revision that change different things.
use Rattle.std.specs.Prelude.{◌≡◌, ◌⊎◌, ℕ, List, [], ◌∷◌}
use Rattle.mtn_base.specs.declared.name.NodeName.{NodeName}
use Rattle.mtn_history_laws.specs.History.{Revision, parents_at}
use Rattle.mtn_history_laws.specs.Scalars.{Scalar, value_at}
use Rattle.mtn_history_laws.specs.Scalars.Scalar.{SlotOf}

-- They have the same nodes in the same slots, and each scalar is on one of them as in their parent
pub record AreSiblings (h : List Revision) (parent left right : ℕ) : Type 0 where
  pub left_parent : parents_at h left ≡ parent ∷ []
  pub right_parent : parents_at h right ≡ parent ∷ []
  pub slots : (n : NodeName) → value_at h (SlotOf n) left ≡ value_at h (SlotOf n) right
  pub apart : (s : Scalar) → (value_at h s left ≡ value_at h s parent) ⊎ (value_at h s right ≡ value_at h s parent)
