-- What the laws of changesets and joinings speak of.
use Rattle.std.specs.Prelude.{◌≡◌, ◌≢◌, ◌⊎◌, ◌↔◌, ℕ, Bool, IsTrue, List, [], Option, Some, None, Contains, IsSome}
use Rattle.mtn_base.specs.declared.id.Id.{Id}
use Rattle.mtn_base.specs.declared.name.NodeName.{NodeName}
use Rattle.mtn_roster.specs.declared.entry.Attr.{Attr}
use Rattle.mtn_roster.specs.declared.entry.Body.TheVariants.{File}
use Rattle.mtn_roster.specs.declared.entry.Entry.{Entry}
use Rattle.mtn_changes.specs.declared.change.Change.{Change}
use Rattle.mtn_changes.specs.declared.change.Change.TheVariants.{Rename, Patch, Clear, Set}
use Rattle.mtn_roster.specs.Tree.{Tree, entry_of, node_at, attr_of, live_of, is_dir, IsSane}
use Rattle.mtn_changeset_laws.specs.Changes.{Occupant, occupant_body}
use Rattle.mtn_changeset_laws.specs.Changes.Occupant.{Old, Added}
use Rattle.mtn_history_laws.specs.History.{Revision, parents_at, IsPlaceOf}
use Rattle.mtn_ancestry.specs.Ancestors.{IsAncestor}

-- the old tree of a revision: none, or a sane one
abbrev pub IsOldTree : Tree → Type 0
IsOldTree old = (old ≡ []) ⊎ IsSane old

-- no two renames of one old path, as in each changeset that was read
abbrev pub RenamesDiffer : List Change → Type 0
RenamesDiffer all = (p q r : List (List ℕ)) → Contains all (Rename p q) → Contains all (Rename p r) → q ≡ r

-- no node of the tree is born in the new revision
abbrev pub NoneBornIn : Tree → Id → Type 0
NoneBornIn old new = (n : NodeName) (e : Entry) → entry_of old n ≡ Some e → n.birth ≡ new → ⊥

-- what the tree that a changeset makes has of the nodes of the old one
pub record Descends (old after : Tree) (new : Id) : Type 0 where
  pub from : (n : NodeName) (e : Entry) → entry_of after n ≡ Some e → n.birth ≢ new → IsSome (entry_of old n)
  pub kind : (n : NodeName) (e f : Entry) → entry_of after n ≡ Some e → entry_of old n ≡ Some f → is_dir e ≡ is_dir f
  pub keys : (n : NodeName) (k : List ℕ) (e f : Entry) → entry_of after n ≡ Some e → entry_of old n ≡ Some f → IsSome (attr_of f.attrs k) → IsSome (attr_of e.attrs k)

-- The birth of an old node that stands in both trees is an ancestor of both parents
abbrev pub CommonAreKnown : Tree → Tree → Id → (Id → Bool) → (Id → Bool) → Type 0
CommonAreKnown left right new above_left above_right =
    (n : NodeName) (x y : Entry) → entry_of left n ≡ Some x → entry_of right n ≡ Some y → n.birth ≢ new →
    IsTrue (above_left n.birth) × IsTrue (above_right n.birth)

-- the history has no revision of that id
abbrev pub IsFresh : List Revision → Id → Type 0
IsFresh log id = (b : ℕ) → IsPlaceOf log id b → ⊥

-- the test passes each ancestor of the revision at p
abbrev pub PassesAncestors : List Revision → ℕ → (Id → Bool) → Type 0
PassesAncestors log p above = (i : Id) (b : ℕ) → IsPlaceOf log i b → IsAncestor (parents_at log) b p → IsTrue (above i)

-- each node that is born in the new revision is named by its path
abbrev pub AreNamedByPath : Tree → Id → Type 0
AreNamedByPath t new = (p : List (List ℕ)) (e : Entry) → node_at t p ≡ Some e → e.name.birth ≡ new → e.name.path ≡ p

-- what two nodes at a path are joined to
pub record IsJoinedOf (new : Id) (p : List (List ℕ)) (x y e : Entry) : Type 0 where
  -- an old node of either side; where both are added, the one that is added at the path
  pub left_node : x.name.birth ≢ new → e.name ≡ x.name
  pub right_node : y.name.birth ≢ new → e.name ≡ y.name
  pub added_node : x.name.birth ≡ new → y.name.birth ≡ new → e.name ≡ record { birth = new; path = p }
  -- the kind and content of both
  pub left_body : e.body ≡ x.body
  pub right_body : e.body ≡ y.body
  -- the live attributes of both
  pub left_live : (k : List ℕ) → live_of e.attrs k ≡ live_of x.attrs k
  pub right_live : (k : List ℕ) → live_of e.attrs k ≡ live_of y.attrs k
  -- and the keys of either, so that one which is live on neither and cleared on one is cleared
  pub keys : (k : List ℕ) → IsSome (attr_of e.attrs k) ↔ (IsSome (attr_of x.attrs k) ⊎ IsSome (attr_of y.attrs k))

-- both sides have a node at a path, and what they are joined to stands there; or none has
abbrev pub IsJoinedAt : Id → List (List ℕ) → Option Entry → Option Entry → Option Entry → Type 0
IsJoinedAt new p (Some x) (Some y) (Some e) = IsJoinedOf new p x y e
IsJoinedAt new p None None None = Unit {0}
IsJoinedAt new p _ _ _ = ⊥

abbrev pub occupant_attrs : Occupant → List Attr
occupant_attrs (Old e) = e.attrs
occupant_attrs (Added path body) = []

-- what changes make of the content and the attributes of the occupant of a path
pub record IsEditedOf (all : List Change) (p : List (List ℕ)) (x : Occupant) (e : Entry) : Type 0 where
  pub patched : (from to : Id) → Contains all (Patch p from to) → e.body ≡ File to
  pub unpatched : ((from to : Id) → Contains all (Patch p from to) → ⊥) → e.body ≡ occupant_body x
  pub set : (k v : List ℕ) → Contains all (Set p k v) → attr_of e.attrs k ≡ Some (Some v)
  -- a cleared key stays, without a value
  pub cleared : (k : List ℕ) → Contains all (Clear p k) → attr_of e.attrs k ≡ Some None
  pub untouched : (k : List ℕ) → ((v : List ℕ) → Contains all (Set p k v) → ⊥) → (Contains all (Clear p k) → ⊥) → attr_of e.attrs k ≡ attr_of (occupant_attrs x) k
