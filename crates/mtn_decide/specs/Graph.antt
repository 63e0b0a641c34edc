-- What a merge of two revisions of a history decides, over the whole graph: no mark set occurs here.
use Rattle.std.specs.Prelude.{◌≡◌, ◌≢◌, ℕ, true, false, List, Option, Some, None}
use Rattle.mtn_ancestry.specs.Ancestors.{IsAncestor}
use Rattle.mtn_base.specs.declared.name.NodeName.{NodeName}
use Rattle.mtn_history_laws.specs.History.{Revision, parents_at, entry_at, IsPlaceOf}
use Rattle.mtn_history_laws.specs.Scalars.{Scalar, Value, value_at, WinsAt}
use Rattle.mtn_history_laws.specs.Scalars.Scalar.{ContentOf}
use Rattle.mtn_roster.specs.declared.entry.Entry.{Entry}
use Rattle.mtn_roster.specs.Tree.{is_dir}
use Rattle.mtn_decide.specs.declared.decision.Pending.{Pending}
use Rattle.mtn_decide.specs.Decisions.{Merge}
use Rattle.mtn_decide.specs.Verdicts.{Verdict, IsMergeBy}
use Rattle.mtn_decide.specs.Verdicts.Verdict.{Settled, Clashing}

-- the node's birth is no ancestor of the revision at r
abbrev pub IsBornOutside : List Revision → ℕ → NodeName → Type 0
IsBornOutside log r n = (b : ℕ) → IsPlaceOf log n.birth b → ¬ IsAncestor (parents_at log) b r

-- whether a node lives, by what left and right have of it
abbrev pub IsLiveWith : List Revision → (left right : ℕ) → NodeName → Option Entry → Option Entry → Type 0
IsLiveWith log left right n (Some e) (Some f) = Unit {0}
IsLiveWith log left right n (Some e) None = IsBornOutside log right n
IsLiveWith log left right n None (Some f) = IsBornOutside log left n
IsLiveWith log left right n None None = ⊥

-- the node is in both trees, or in one and its birth is no ancestor of the other
abbrev pub IsLive : List Revision → (left right : ℕ) → NodeName → Type 0
IsLive log left right n = IsLiveWith log left right n (entry_at log left n) (entry_at log right n)

-- what is decided of a scalar: the first that holds
pub data IsDecided (log : List Revision) (left right : ℕ) (s : Scalar) : Verdict → Type 0 where
  common : {v : Value} → value_at log s left ≡ Some v → value_at log s right ≡ Some v → IsDecided log left right s (Settled v)
  left_alone : {v : Value} → value_at log s left ≡ Some v → value_at log s right ≡ None → IsDecided log left right s (Settled v)
  right_alone : {w : Value} → value_at log s left ≡ None → value_at log s right ≡ Some w → IsDecided log left right s (Settled w)
  left_wins : {v w : Value} → value_at log s left ≡ Some v → value_at log s right ≡ Some w → v ≢ w →
      WinsAt log s left right → IsDecided log left right s (Settled v)
  right_wins : {v w : Value} → value_at log s left ≡ Some v → value_at log s right ≡ Some w → v ≢ w →
      ¬ WinsAt log s left right → WinsAt log s right left → IsDecided log left right s (Settled w)
  clash : {v w : Value} → value_at log s left ≡ Some v → value_at log s right ≡ Some w → v ≢ w →
      ¬ WinsAt log s left right → ¬ WinsAt log s right left → IsDecided log left right s (Clashing v w)

-- a file of one side that does not live, and whose content the other side does not win
pub data IsPending (log : List Revision) (left right : ℕ) (n : NodeName) : Pending → Type 0 where
  of_left : {e : Entry} → entry_at log left n ≡ Some e → is_dir e ≡ false → ¬ IsLive log left right n →
      ¬ WinsAt log (ContentOf n) right left → IsPending log left right n (record { entry = e; from_left = true })
  of_right : {e : Entry} → entry_at log right n ≡ Some e → is_dir e ≡ false → ¬ IsLive log left right n →
      ¬ WinsAt log (ContentOf n) left right → IsPending log left right n (record { entry = e; from_left = false })

-- what a merge of the revisions at left and right decides
abbrev pub IsMergeOf : List Revision → (left right : ℕ) → Merge → Type 0
IsMergeOf log left right = IsMergeBy (IsLive log left right) (IsDecided log left right) (IsPending log left right)
