-- The sides of a merge: two revisions of a history, neither an ancestor of the other. That left has the lesser id is our choice.
use Rattle.std.specs.Prelude.{◌≡◌, ℕ, List, [], ◌∷◌, Option, Some, None, option_map, if◌then◌else◌}
use Rattle.std.specs.Ordering.{is_lt}
use Rattle.mtn_answers.specs.Queries.{first_unknown}
use Rattle.mtn_base.specs.Ids.{by_id}
use Rattle.mtn_base.specs.declared.id.Id.{Id}
use Rattle.mtn_base.specs.declared.refusal.Cause.{Cause}
use Rattle.mtn_base.specs.declared.refusal.Cause.TheVariants.{Related, UnknownRevision}
use Rattle.mtn_changeset_laws.specs.Changes.{or_else}
use Rattle.mtn_decide.specs.Decisions.{Merge, IsInOrder}
use Rattle.mtn_decide.specs.Graph.{IsMergeOf}
use Rattle.mtn_history_laws.specs.History.{Revision}
use Rattle.mtn_replay.specs.Making.{place_of, is_above}

-- the lesser id, whichever was named first
abbrev pub left_of : Id → Id → Id
left_of a b = if is_lt (by_id b a) then b else a

-- the greater one
abbrev pub right_of : Id → Id → Id
right_of a b = if is_lt (by_id b a) then a else b

-- one is an ancestor of the other, or they are the same: the older, then the newer
abbrev pub related : List Revision → Id → Id → Option Cause
related h l r = if is_above h (Some r) l then Some (Related l r) else if is_above h (Some l) r then Some (Related r l) else None

-- why two revisions are not merged: the first that is not held; that they are related
abbrev pub side_refusal : List Revision → Id → Id → Option Cause
side_refusal h a b = or_else (option_map UnknownRevision (first_unknown h (a ∷ b ∷ []))) (related h (left_of a b) (right_of a b))

-- what a merge of two revisions decides
pub record IsMergeAt (h : List Revision) (l r : Id) (m : Merge) : Type 0 where
  pub left : ℕ
  pub right : ℕ
  pub at_left : place_of h l ≡ Some left
  pub at_right : place_of h r ≡ Some right
  pub order : IsInOrder m
  pub decides : IsMergeOf h left right m
