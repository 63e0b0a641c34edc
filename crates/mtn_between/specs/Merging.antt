-- What a merge shows of the tree on which it decides, and what follows from that alone.
use Rattle.std.specs.Prelude.{◌≡◌, ◌⊎◌, Bool, false, IsTrue, ℕ, List, Some, None, IsSome}
use Rattle.mtn_base.specs.declared.id.Id.{Id}
use Rattle.mtn_base.specs.declared.name.NodeName.{NodeName}
use Rattle.mtn_roster.specs.declared.entry.Entry.{Entry}
use Rattle.mtn_roster.specs.Tree.{Tree, entry_of, attr_of, path_of, IsSane}
use Rattle.mtn_changeset_laws.specs.Laws.{NoneBornIn}
use Rattle.mtn_between.specs.Laws.{IsSpellable, KindsAgree}

-- the tree has the key at a node, live or cleared
abbrev pub HasKey : Tree → NodeName → List ℕ → Type 0
HasKey t n k = (e : Entry) × (entry_of t n ≡ Some e) × IsSome (attr_of e.attrs k)

-- A side of a merge. `above` passes the ids of its revision's ancestors
pub record IsSide (side : Tree) (new : Id) (above : Id → Bool) : Type 0 where
  pub sane : IsSane side
  pub spellable : IsSpellable side
  pub unborn : NoneBornIn side new
  pub born : (n : NodeName) (e : Entry) → entry_of side n ≡ Some e → IsTrue (above n.birth)

-- The tree of a merge of two sides as the revision `new`
pub record IsMerged (left right : Tree) (new : Id) (above_left above_right : Id → Bool) (t : Tree) : Type 0 where
  pub sane : IsSane t
  pub spellable : IsSpellable t
  pub left_kinds : KindsAgree left t
  pub right_kinds : KindsAgree right t
  -- a node of one side alone was born outside the ancestors of the other
  pub left_lives : (n : NodeName) (e f : Entry) → entry_of t n ≡ Some e → entry_of left n ≡ Some f → entry_of right n ≡ None → above_right n.birth ≡ false
  pub right_lives : (n : NodeName) (e f : Entry) → entry_of t n ≡ Some e → entry_of right n ≡ Some f → entry_of left n ≡ None → above_left n.birth ≡ false
  -- a node of neither side is born in the new revision, at its path
  pub reborn : (n : NodeName) (e : Entry) → entry_of t n ≡ Some e → entry_of left n ≡ None → entry_of right n ≡ None → n ≡ record { birth = new; path = path_of t e }
  -- a node has the keys that it has on either side
  pub keys : (n : NodeName) (e : Entry) (k : List ℕ) → entry_of t n ≡ Some e → HasKey left n k ⊎ HasKey right n k → IsSome (attr_of e.attrs k)
  -- and a key that is cleared it has on a side
  pub cleared : (n : NodeName) (e : Entry) (k : List ℕ) → entry_of t n ≡ Some e → attr_of e.attrs k ≡ Some None → HasKey left n k ⊎ HasKey right n k
