-- A history of trees, oldest revision first, and what it takes to grow.
use Rattle.std.specs.Prelude.{◌≡◌, ◌≢◌, ◌↔◌, ℕ, ◌<◌, ◌≤◌, Bool, IsTrue, List, [], ◌∷◌, length, Option, Some, None, Contains, IsSome, slice_get}
use Rattle.mtn_base.specs.declared.id.Id.{Id}
use Rattle.mtn_base.specs.declared.name.NodeName.{NodeName}
use Rattle.mtn_ancestry.specs.Ancestors.{IsAncestor, ParentsAreEarlier}
use Rattle.mtn_roster.specs.declared.entry.Entry.{Entry}
use Rattle.mtn_roster.specs.Tree.{Tree, IsSane, attr_of, entry_of, is_dir}

-- a revision's id, the positions of its parents in the order of its edges, and its tree
pub record Revision : Type 0 where
  pub id : Id
  pub parents : List ℕ
  pub tree : Tree

abbrev pub revision_parents : Option Revision → List ℕ
revision_parents None = []
revision_parents (Some r) = r.parents

abbrev pub revision_tree : Option Revision → Tree
revision_tree None = []
revision_tree (Some r) = r.tree

-- the parents of the revision at r; none where the history has no such position
abbrev pub parents_at : List Revision → ℕ → List ℕ
parents_at log r = revision_parents (slice_get log r)

-- the tree of the revision at r
abbrev pub tree_at : List Revision → ℕ → Tree
tree_at log r = revision_tree (slice_get log r)

-- what the tree of the revision at r has of a node
abbrev pub entry_at : List Revision → ℕ → NodeName → Option Entry
entry_at log r n = entry_of (tree_at log r) n

-- the revision at b has this id
abbrev pub IsPlaceOf : List Revision → Id → ℕ → Type 0
IsPlaceOf log id b = (r : Revision) × (slice_get log b ≡ Some r) × (r.id ≡ id)

-- the birth of each node is an ancestor
abbrev pub BirthsAreKnown : List Revision → Type 0
BirthsAreKnown log = (r : ℕ) (n : NodeName) (e : Entry) → entry_at log r n ≡ Some e →
    (b : ℕ) × IsPlaceOf log n.birth b × IsAncestor (parents_at log) b r

-- What holds of each history that revisions make one by one
pub record IsGrown (log : List Revision) : Type 0 where
  -- parents stand before their child, there are at most two, and they differ
  pub earlier : ParentsAreEarlier (parents_at log)
  pub two : (r : ℕ) → length (parents_at log r) ≤ 2
  pub apart : (r p q : ℕ) → parents_at log r ≡ p ∷ q ∷ [] → p ≢ q
  -- no id stands twice
  pub differ : (id : Id) (b c : ℕ) → IsPlaceOf log id b → IsPlaceOf log id c → b ≡ c
  pub sane : (r : ℕ) → r < length log → IsSane (tree_at log r)
  pub born : BirthsAreKnown log
  -- a node that was not born here is in a parent's tree
  pub kept : (r : ℕ) (n : NodeName) (e : Entry) → entry_at log r n ≡ Some e → (IsPlaceOf log n.birth r → ⊥) →
      (p : ℕ) × Contains (parents_at log r) p × IsSome (entry_at log p n)
  -- a node that a parent lacks was born outside that parent's ancestors
  pub gone : (r p : ℕ) (n : NodeName) (e : Entry) → Contains (parents_at log r) p → entry_at log r n ≡ Some e → entry_at log p n ≡ None →
      (b : ℕ) → IsPlaceOf log n.birth b → ¬ IsAncestor (parents_at log) b p
  -- kinds stay, and attribute keys are never lost
  pub kind : (r p : ℕ) (n : NodeName) (e f : Entry) → Contains (parents_at log r) p → entry_at log r n ≡ Some e → entry_at log p n ≡ Some f →
      is_dir e ≡ is_dir f
  pub keys : (r p : ℕ) (n : NodeName) (k : List ℕ) (e f : Entry) → Contains (parents_at log r) p → entry_at log r n ≡ Some e → entry_at log p n ≡ Some f →
      IsSome (attr_of f.attrs k) → IsSome (attr_of e.attrs k)

-- What acceptance shows of a new revision over a history
pub record IsStep (log : List Revision) (new : Revision) : Type 0 where
  pub known : (p : ℕ) → Contains new.parents p → p < length log
  pub two : length new.parents ≤ 2
  pub apart : (p q : ℕ) → new.parents ≡ p ∷ q ∷ [] → p ≢ q
  pub fresh_id : (b : ℕ) → IsPlaceOf log new.id b → ⊥
  pub sane : IsSane new.tree
  pub from : (n : NodeName) (e : Entry) → entry_of new.tree n ≡ Some e → n.birth ≢ new.id →
      (p : ℕ) × Contains new.parents p × IsSome (entry_at log p n)
  pub not_revived : (p : ℕ) (n : NodeName) (e : Entry) → Contains new.parents p → entry_of new.tree n ≡ Some e → n.birth ≢ new.id →
      entry_at log p n ≡ None → (b : ℕ) → IsPlaceOf log n.birth b → ¬ IsAncestor (parents_at log) b p
  pub kind : (p : ℕ) (n : NodeName) (e f : Entry) → Contains new.parents p → entry_of new.tree n ≡ Some e → entry_at log p n ≡ Some f →
      is_dir e ≡ is_dir f
  pub keys : (p : ℕ) (n : NodeName) (k : List ℕ) (e f : Entry) → Contains new.parents p → entry_of new.tree n ≡ Some e → entry_at log p n ≡ Some f →
      IsSome (attr_of f.attrs k) → IsSome (attr_of e.attrs k)

-- the test tells whether the revision with an id is an ancestor of the one at p
abbrev pub TellsAncestors : List Revision → ℕ → (Id → Bool) → Type 0
TellsAncestors log p above = (i : Id) → IsTrue (above i) ↔ ((b : ℕ) × IsPlaceOf log i b × IsAncestor (parents_at log) b p)
