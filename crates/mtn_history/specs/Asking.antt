-- What a call on a draft that only asks its keeper leaves as it was.
use Rattle.std.specs.Prelude.{◌≡◌, ◌≤◌, ◌+◌, ◌&&◌, if◌then◌else◌, ℕ, Bool, not, List, Option, Some, length}
use Rattle.std.specs.Cmp.Lexicographic.{slice_cmp}
use Rattle.std.specs.Ordering.{is_lt, nat_cmp}
use Rattle.mtn_model.specs.Table.{Contents, body_at}
use Rattle.mtn_ports.specs.Kept.{IsAbove, Stays}
use Rattle.mtn_history.specs.Drafts.{DraftValue}

-- the lesser of the least pending key and the keeper's, if it has one
abbrev pub first_key : Bool → List ℕ → List ℕ → List ℕ
first_key found kept pending = if found && not (is_lt (slice_cmp nat_cmp pending kept)) then kept else pending

-- no key of twenty bytes stands between these
abbrev pub IsJustBelow : List ℕ → List ℕ → Type 0
IsJustBelow below key = (other : List ℕ) → length other ≡ 20 → IsAbove below other → IsAbove other key → ⊥

-- each key of a table has twenty bytes
abbrev pub HasTwenty : Contents → ℕ → Type 0
HasTwenty c table = (key body : List ℕ) → body_at c table key ≡ Some body → length key ≡ 20

-- The keeper is the same and only asked, at most so often, and what is pending stays
pub record OnlyAsks {K : Type 0} (contents : K → Option Contents) (leaves : K → Contents → Type 0) (faults asked : K → ℕ) (most : ℕ) (old new : DraftValue K) : Type 0 where
  pub same_reference : new.keeper.ghost_name ≡ old.keeper.ghost_name
  pub stays : Stays contents leaves faults old.keeper.now new.keeper.now
  pub pending : new.pending ≡ old.pending
  pub reads : asked new.keeper.now ≤ asked old.keeper.now + most
