-- Marks that are those of a whole history.
use Rattle.std.specs.Prelude.{◌≡◌, ◌↔◌, ℕ, List, ◌++◌, ◌∷◌, [], length, Option, Some, None, Contains, IsSome}
use Rattle.mtn_base.specs.declared.name.NodeName.{NodeName}
use Rattle.mtn_history_laws.specs.History.{Revision, tree_at, IsPlaceOf, IsGrown}
use Rattle.mtn_history_laws.specs.Scalars.{Scalar, value_at, IsMark}
use Rattle.mtn_marking.specs.declared.node.Marking.{Marking}
use Rattle.mtn_roster.specs.Tree.{Tree}
use Rattle.mtn_marking.specs.Marking.{MarkedTree, marks_in, marking_of}

-- exactly the marks of the scalar at r, where the revision has the scalar, and none where it does not
abbrev pub AreMarksOf : List Revision → ℕ → Scalar → Option (List ℕ) → Type 0
AreMarksOf log r s None = value_at log s r ≡ None
AreMarksOf log r s (Some marks) = IsSome (value_at log s r) × ((x : ℕ) → Contains marks x ↔ IsMark log s r x)

-- The revision at r has this tree, each scalar has these marks, and each birth is the position of its id
pub record IsMarkedAt (log : List Revision) (r : ℕ) (t : MarkedTree) : Type 0 where
  pub tree : tree_at log r ≡ t.tree
  pub marks : (s : Scalar) → AreMarksOf log r s (marks_in t.marks s)
  pub births : (n : NodeName) (m : Marking) → marking_of t.marks n ≡ Some m → IsPlaceOf log n.birth m.birth

-- the history grows by a revision with this tree and these parents, at this position
pub record Extends (log : List Revision) (next : Revision) (at : ℕ) (parents : List ℕ) (new : Tree) : Type 0 where
  pub place : at ≡ length log
  pub grown : IsGrown (log ++ next ∷ [])
  pub parents_are : next.parents ≡ parents
  pub tree_is : next.tree ≡ new
