-- The parents of a revision, found by the records of these alone, are those of the history.
use Rattle.std.specs.Prelude.{Contains}
use Rattle.std.proofs.Common.{◌≡◌, ◌<◌, ℕ, List, [], ◌∷◌, Some, Ok, refl, sym, ap, ◌∙◌, subst, arith}
use Rattle.mtn_ancestry.specs.Log.{list_of}
use Rattle.mtn_answers.proofs.Lists.{listed_by}
use Rattle.mtn_answers.specs.Queries.{IsParent}
use Rattle.mtn_answers.specs.declared.query.Query.TheVariants.{Parents}
use Rattle.mtn_base.specs.Ids.{by_id, in_id_order}
use Rattle.mtn_base.specs.declared.id.Id.{Id}
use Rattle.mtn_graph_queries.proofs.Placing.{all_known, stands, stood}
use Rattle.mtn_graph_queries.proofs.Sorting.{by_id_once}
use Rattle.mtn_graph_queries.proofs.Telling.{one_id}
use Rattle.mtn_history.specs.Logs.{IsLogOf}
use Rattle.mtn_history.specs.Revisions.{Kept}
use Rattle.mtn_history_laws.specs.History.{IsGrown, IsPlaceOf, Revision, parents_at, revision_parents}
use Rattle.mtn_records.specs.Bounds.{IsLogWithin}
use Rattle.mtn_records.specs.declared.record.LogRecord.{LogRecord}
use Rattle.mtn_replay.proofs.Places.{place_has}
use Rattle.mtn_replay.specs.Making.{place_of}
use Rattle.mtn_near_queries.specs.Finding.{AreListedAt, AreNamedAt, FindsAnswer}
use Rattle.mtn_near_queries.proofs.Listing.{flipped}

module _ (h : List Revision) where
  -- the ids that were read at positions, put in order
  pub listed_at : (places : List ℕ) (given once : List Id) → AreNamedAt h places given → once ≡ in_id_order given → AreListedAt h places once
  listed_at places given once zip put =
      let named = flipped (λ at id. IsPlaceOf h id at) places given zip in
      listed_by by_id (Contains given) (λ x. (at : ℕ) × Contains places at × IsPlaceOf h x at) once
      (λ x c. stands h given places named x c)
      (λ x t. let s = stood h given places named t.0 t.1 in subst (Contains given) (one_id h s.0 x t.0 s.2 t.2) s.1)
      (by_id_once given given once refl put)

  -- the record of the log at the revision's place has its parents
  pub parents_found : IsGrown h → (ks : List Kept) (of : Id) (at : ℕ) (log : LogRecord) (ids : List Id) → place_of h of ≡ Some at →
      IsLogOf h ks at log → AreListedAt h (list_of log.parents) ids → FindsAnswer h (Parents of) (Ok ids)
  parents_found grown ks of at log ids is logged list =
      let here = place_has h of at is in
      let same : list_of log.parents ≡ parents_at h at = logged.parents ∙ sym (ap revision_parents logged.stands) in (
        all_known h (of ∷ []) (at ∷ []) (here, tt),
        listed_by by_id (λ x. (a : ℕ) × Contains (list_of log.parents) a × IsPlaceOf h x a) (λ x. IsParent h x of) ids
            (λ x t. (t.0, at, t.2, here, subst (λ ps. Contains ps t.0) same t.1))
            (λ x t.
            let there = subst (λ k. Contains (parents_at h k) t.0) (grown.differ of t.1 at t.3 here) t.4 in
            (t.0, subst (λ ps. Contains ps t.0) (sym same) there, t.2))
            list,
      )

-- the id of the record at a place
pub id_placed : (h : List Revision) (ks : List Kept) (at : ℕ) (log : LogRecord) → IsLogOf h ks at log → IsPlaceOf h log.id at
id_placed h ks at log is = (is.revision, is.stands, sym is.id)

-- a parent stands below its child, so it is in the log
pub parents_below : (at n : ℕ) (log : LogRecord) → IsLogWithin at log → at < n → (p : ℕ) → Contains (list_of log.parents) p → p < n
parents_below at n log within lt p c = let low : p < at = subst (λ x. x < at) c.2 (within c.0 p c.1) in omega (arith, low, lt)
