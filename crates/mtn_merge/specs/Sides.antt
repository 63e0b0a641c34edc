-- The sides that are merged, as a draft finds them.
use Rattle.std.specs.Prelude.{◌≡◌, List, Some, None, Result, Ok, Err, ⊤}
use Rattle.mtn_base.specs.declared.id.Id.{Id}
use Rattle.mtn_history.specs.declared.errors.HistoryError.{HistoryError}
use Rattle.mtn_history.specs.declared.errors.HistoryError.TheVariants.{Refused, Store}
use Rattle.mtn_history_laws.specs.History.{Revision}
use Rattle.mtn_marking.specs.Graph.{IsMarkedAt}
use Rattle.mtn_plans.specs.Sides.{left_of, right_of, related, side_refusal, IsMergeAt}
use Rattle.mtn_replay.specs.Making.{place_of}
use Rattle.mtn_merge.specs.declared.sides.Compared.{Compared}
use Rattle.mtn_merge.specs.declared.sides.Side.{Side}

-- it stands there in the history, and this is its roster with the marks
pub record IsSideOf (h : List Revision) (side : Side) : Type 0 where
  pub place : place_of h side.id ≡ Some side.at
  pub marked : IsMarkedAt h side.at side.roster

-- both sides, and what the history decides of them
pub record AreCompared (h : List Revision) (l r : Id) (x : Compared) : Type 0 where
  pub left : x.left.id ≡ l
  pub right : x.right.id ≡ r
  pub left_side : IsSideOf h x.left
  pub right_side : IsSideOf h x.right
  pub merge : IsMergeAt h l r x.decisions

-- two sides that are not related, or their refusal
abbrev pub Compares : List Revision → Id → Id → Result Compared HistoryError → Type 0
Compares h l r (Ok x) = (related h l r ≡ None) × AreCompared h l r x
Compares h l r (Err (Refused cause)) = related h l r ≡ Some cause
Compares h l r (Err (Store e)) = ⊤

-- the sides of two revisions, or their first refusal
abbrev pub FindsSides : List Revision → Id → Id → Result Compared HistoryError → Type 0
FindsSides h a b (Ok x) = (side_refusal h a b ≡ None) × AreCompared h (left_of a b) (right_of a b) x
FindsSides h a b (Err (Refused cause)) = side_refusal h a b ≡ Some cause
FindsSides h a b (Err (Store e)) = ⊤
