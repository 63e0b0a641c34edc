-- What the calls behind `put_revision` find: the parents, what each has alone, and the damages on the way.
use Rattle.std.specs.Prelude.{◌≡◌, ◌<◌, ◌⊎◌, ◌↔◌, IsTrue, Contains, ℕ, List, Option, Some, None, is_none, find, filter_map, option_and_then, if◌then◌else◌}
use Rattle.std.specs.FinMap.{get}
use Rattle.std.specs.BTreeSet.{BTreeSet, contains}
use Rattle.mtn_base.specs.declared.id.Id.{Id}
use Rattle.mtn_base.specs.declared.refusal.Cause.{Cause}
use Rattle.mtn_base.specs.declared.refusal.Cause.TheVariants.{UnknownParent}
use Rattle.mtn_history_laws.specs.History.{Revision, IsPlaceOf}
use Rattle.mtn_join.specs.Join.{id_cmp}
use Rattle.mtn_changes.specs.declared.change.Change.{Change}
use Rattle.mtn_changes.specs.declared.change.Revision.{Revision as Spelled}
use Rattle.mtn_roster.specs.Tree.{Tree}
use Rattle.mtn_changeset_laws.specs.Changes.{or_else}
use Rattle.mtn_replay.specs.Making.{place_of, bad_change, bad_join, made_tree, new_content, tree_refusal, unknown_file, other_manifest}
use Rattle.mtn_model.specs.State.{State}
use Rattle.mtn_model.specs.Table.{Table, Contents}
use Rattle.mtn_ports.specs.Kept.{with_all}
use Rattle.mtn_history.specs.Damage.{IsBad}
use Rattle.mtn_history.specs.Logs.{WrongBelow, IsHeldAt}
use Rattle.mtn_history.specs.Places.{UnplacedBelow}
use Rattle.mtn_history.specs.Rosters.{UnmadeBelow, IsRosterHeld}
use Rattle.mtn_history.specs.Stands.{IsFounded}
use Rattle.mtn_history.specs.declared.errors.Damage.{Damage}
use Rattle.mtn_history.specs.declared.errors.HistoryError.{HistoryError}
use Rattle.mtn_history.specs.declared.errors.HistoryError.TheVariants.{Refused, Store}
use Rattle.mtn_history.specs.declared.errors.StoreError.TheVariants.{Failed}
use Rattle.mtn_history.specs.declared.pending.Pending.{Pending}

-- the draft stands for no state
abbrev pub IsUnfounded : Option Contents → Pending → Type 0
IsUnfounded told p = (f : List ℕ → List ℕ) (s : State) → IsFounded f told p s → ⊥

-- a record of the log or of a roster at a position of the log, where the draft's records stand for no state
pub record IsUnfit (told : Option Contents) (p : Pending) (d : Damage) : Type 0 where
  pub place : ℕ
  pub below : place < p.count
  pub bad : IsBad d
  pub records : Contents
  pub tells : told ≡ Some records
  pub held : IsHeldAt (with_all records p.batch) place d ⊎ IsRosterHeld (with_all records p.batch) place d
  pub unfit : IsUnfounded told p

-- a damage that the calls come across, of the draft's records c
abbrev pub IsFound : Option Contents → Pending → Contents → Damage → Type 0
IsFound told p c d = UnplacedBelow p.count c d ⊎ (WrongBelow p.count c d ⊎ (UnmadeBelow p.count c d ⊎ IsUnfit told p d))

-- the parent has no place
abbrev pub IsUnknown : List Revision → Id → HistoryError → Type 0
IsUnknown h id (Refused cause) = (cause ≡ UnknownParent id) × (place_of h id ≡ None)
IsUnknown h id (Store e) = Unit {0}

-- exactly the ids of the revisions at these positions
abbrev pub AreIdsAt : List Revision → List ℕ → BTreeSet Id → Type 0
AreIdsAt h positions ids = (i : Id) → IsTrue (contains id_cmp ids i) ↔ ((b : ℕ) × Contains positions b × IsPlaceOf h i b)

-- the cause of a refusal
abbrev pub IsRefusal : Option Cause → HistoryError → Type 0
IsRefusal refusal (Refused cause) = refusal ≡ Some cause
IsRefusal refusal (Store e) = Unit {0}

-- a fault has its cause
abbrev pub IfFailed : HistoryError → Type 0 → Type 0
IfFailed (Store Failed) P = P
IfFailed _ P = Unit {0}

-- the first refusal behind those of the log's room and of the parents
abbrev pub made_refusal_of : (List ℕ → List ℕ) → Table → List Revision → Id → Spelled → Option Cause
made_refusal_of f files h new r =
    or_else (bad_change h 1 r.edges) (or_else (bad_join h new r.edges) (tree_refusal f files r (made_tree h new r.edges)))

-- what a text refuses of the tree that its edges make: a content that is not held, and another manifest
abbrev pub text_refusal : (List ℕ → List ℕ) → Table → Spelled → Tree → Option Cause
text_refusal f files r t = or_else (unknown_file files r.edges) (other_manifest f t r.manifest)

-- a change's content that is not held
abbrev pub unknown_in : Table → Change → Option Id
unknown_in files change = option_and_then (λ (id : Id). if is_none (get files id.0) then Some id else None) (new_content change)

-- the first of some changes
abbrev pub first_unknown : Table → List Change → Option Id
first_unknown files changes = find (λ (id : Id). is_none (get files id.0)) (filter_map new_content changes)
