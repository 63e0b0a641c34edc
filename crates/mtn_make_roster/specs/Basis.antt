-- What is known of a new revision's parents, and what making its tree answers over the history below.
use Rattle.std.specs.Prelude.{◌≡◌, ◌↔◌, ℕ, IsTrue, List, [], ◌∷◌, Option, Some, None, Contains, option_and_then}
use Rattle.std.specs.BTreeSet.{contains}
use Rattle.mtn_base.specs.declared.id.Id.{Id}
use Rattle.mtn_base.specs.declared.refusal.Cause.{Cause}
use Rattle.mtn_changes.specs.declared.change.Edge.{Edge}
use Rattle.mtn_changeset_laws.specs.Changes.{or_else}
use Rattle.mtn_history_laws.specs.History.{Revision, parents_at, IsPlaceOf, IsGrown}
use Rattle.mtn_join.specs.Join.{id_cmp}
use Rattle.mtn_replay.specs.Making.{place_of, made_tree, bad_change, bad_join, too_many, too_long}
use Rattle.mtn_marking.specs.Graph.{IsMarkedAt}
use Rattle.mtn_marking.specs.Marking.{MarkedTree}
use Rattle.mtn_mark_laws.specs.Rule.{AreUncommon}
use Rattle.mtn_make_roster.specs.declared.basis.Basis.{Basis}
use Rattle.mtn_make_roster.specs.declared.basis.Basis.TheVariants.{Root, One, Two}
use Rattle.mtn_make_roster.specs.declared.basis.Uncommon.{Uncommon}
use Rattle.mtn_make_roster.specs.declared.error.MakeError.{MakeError}
use Rattle.mtn_make_roster.specs.declared.error.MakeError.TheVariants.{Refused, Damaged, NoMemory}

-- the parent of an edge stands at p, and this is its tree with its marks
pub record IsParentAt (h : List Revision) (e : Edge) (p : ℕ) (t : MarkedTree) : Type 0 where
  pub place : option_and_then (place_of h) e.parent ≡ Some p
  pub marked : IsMarkedAt h p t

-- exactly the ancestors of the revision at p that the one at q lacks, and their ids
pub record AreUncommonIn (h : List Revision) (p q : ℕ) (u : Uncommon) : Type 0 where
  pub positions : AreUncommon (parents_at h) p q u.positions
  pub ids : (i : Id) → IsTrue (contains id_cmp u.ids i) ↔ ((b : ℕ) × Contains u.positions b × IsPlaceOf h i b)

-- both parents, and what each has that the other lacks
pub record AreTwoParents (h : List Revision) (e f : Edge) (left right : MarkedTree) (only_left only_right : Uncommon) : Type 0 where
  pub p : ℕ
  pub q : ℕ
  pub left_at : IsParentAt h e p left
  pub right_at : IsParentAt h f q right
  pub left_alone : AreUncommonIn h p q only_left
  pub right_alone : AreUncommonIn h q p only_right

-- the history has the parents of the edges as the basis says
abbrev pub IsBasis : List Revision → List Edge → Basis → Type 0
IsBasis h (e ∷ []) Root = e.parent ≡ None
IsBasis h (e ∷ []) (One parent) = (p : ℕ) × IsParentAt h e p parent.now
IsBasis h (e ∷ f ∷ []) (Two left right only_left only_right) = AreTwoParents h e f left.now right.now only_left.now only_right.now
IsBasis h _ _ = ⊥

-- a grown history with the parents, to which the id is new
pub record Underlies (h : List Revision) (edges : List Edge) (basis : Basis) (new : Id) : Type 0 where
  pub grown : IsGrown h
  pub fresh : place_of h new ≡ None
  pub parents : IsBasis h edges basis

-- the first change that fails, and else the least path at which two trees can not be joined
abbrev pub edges_refusal : List Revision → Id → List Edge → Option Cause
edges_refusal h new edges = or_else (bad_change h 1 edges) (bad_join h new edges)

-- and else what is too much of the tree
abbrev pub made_refusal : List Revision → Id → List Edge → Option Cause
made_refusal h new edges =
    let t = made_tree h new edges in
    or_else (edges_refusal h new edges) (or_else (too_many t) (too_long t))

-- An answer other than a tree has its cause in this refusal; nothing is damaged, and memory may always be wanting
abbrev pub IsCauseOf : Option Cause → MakeError → Type 0
IsCauseOf refusal (Refused cause) = refusal ≡ Some cause
IsCauseOf refusal Damaged = ⊥
IsCauseOf refusal NoMemory = Unit {0}
