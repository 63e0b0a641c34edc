-- An id without a place is refused.
use Rattle.std.proofs.Common.{◌≡◌, ◌∷◌, [], List, None, Some, Err, ◌∙◌}
use Rattle.mtn_answers.specs.Queries.{first_unknown, ids_of}
use Rattle.mtn_answers.specs.declared.query.Query.{Query}
use Rattle.mtn_base.specs.declared.id.Id.{Id}
use Rattle.mtn_graph_queries.proofs.Placing.{passed, stopped}
use Rattle.mtn_history.specs.declared.errors.HistoryError.{HistoryError}
use Rattle.mtn_history.specs.declared.errors.HistoryError.TheVariants.{Refused, Store}
use Rattle.mtn_history_laws.specs.History.{Revision}
use Rattle.mtn_replay.proofs.Places.{place_has}
use Rattle.mtn_replay.specs.Making.{place_of}
use Rattle.mtn_near_queries.specs.Finding.{FindsAnswer, FindsPlace}

module _ (h : List Revision) where
  pub missing : (query : Query) (id : Id) (e : HistoryError) → (place_of h id ≡ None → first_unknown h (ids_of query) ≡ Some id) → FindsPlace h id (Err e) → FindsAnswer h query (Err e)
  missing query id (Refused cause) first at = (id, at.0, first at.1)
  missing query id (Store e) first at = tt

  pub only : (id : Id) → place_of h id ≡ None → first_unknown h (id ∷ []) ≡ Some id
  only id none = stopped h id [] none

  pub first : (of without : Id) → place_of h of ≡ None → first_unknown h (of ∷ without ∷ []) ≡ Some of
  first of without none = stopped h of (without ∷ []) none

  pub second : (of without : Id) (left : _) → place_of h of ≡ Some left → place_of h without ≡ None → first_unknown h (of ∷ without ∷ []) ≡ Some without
  second of without left at none = passed h of (without ∷ []) left (place_has h of left at) ∙ stopped h without [] none
