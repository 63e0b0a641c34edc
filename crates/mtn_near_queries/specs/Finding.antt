-- What a query that reads near its revisions finds in a history.
use Rattle.std.specs.Prelude.{◌≡◌, ℕ, List, Contains, Some, None, Result, Ok, Err, ⊤}
use Rattle.std.specs.List.{AllZip}
use Rattle.mtn_ancestry.specs.Ancestors.{IsUncommon}
use Rattle.mtn_answers.specs.Queries.{IsAnswer, by_place, first_unknown, ids_of}
use Rattle.mtn_answers.specs.declared.query.Query.{Query}
use Rattle.mtn_base.specs.Ids.{by_id}
use Rattle.mtn_base.specs.Lists.{IsListOf}
use Rattle.mtn_base.specs.declared.id.Id.{Id}
use Rattle.mtn_base.specs.declared.refusal.Cause.TheVariants.{UnknownRevision}
use Rattle.mtn_history.specs.declared.errors.HistoryError.{HistoryError}
use Rattle.mtn_history.specs.declared.errors.HistoryError.TheVariants.{Refused, Store}
use Rattle.mtn_history_laws.specs.History.{IsPlaceOf, Revision, parents_at}
use Rattle.mtn_replay.specs.Making.{place_of}

-- where the revision stands, or the refusal of its id
abbrev pub FindsPlace : List Revision → Id → Result ℕ HistoryError → Type 0
FindsPlace h id (Ok at) = place_of h id ≡ Some at
FindsPlace h id (Err (Refused cause)) = (cause ≡ UnknownRevision id) × (place_of h id ≡ None)
FindsPlace h id (Err (Store e)) = ⊤

-- the ids of the revisions at these positions, in their order
abbrev pub AreNamedAt : List Revision → List ℕ → List Id → Type 0
AreNamedAt h places ids = AllZip (λ at id. IsPlaceOf h id at) places ids

-- the same ascending, each once
abbrev pub AreListedAt : List Revision → List ℕ → List Id → Type 0
AreListedAt h places ids = IsListOf by_id (λ x. (at : ℕ) × Contains places at × IsPlaceOf h x at) ids

-- the ids of the left revision and its ancestors that are none of the right one's, in log order
abbrev pub AreBetween : List Revision → ℕ → ℕ → List Id → Type 0
AreBetween h left right ids = IsListOf (by_place h) (λ x. (at : ℕ) × IsUncommon (parents_at h) left right at × IsPlaceOf h x at) ids

-- the answer, where all ids are known, or the refusal of the first that is not
abbrev pub FindsAnswer : List Revision → Query → Result (List Id) HistoryError → Type 0
FindsAnswer h q (Ok ids) = (first_unknown h (ids_of q) ≡ None) × IsAnswer h q ids
FindsAnswer h q (Err (Refused cause)) = (id : Id) × (cause ≡ UnknownRevision id) × (first_unknown h (ids_of q) ≡ Some id)
FindsAnswer h q (Err (Store e)) = ⊤
