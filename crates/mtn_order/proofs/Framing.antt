-- A command whose facts of a history hold of the same history in another order is free of the order.
use Rattle.std.specs.List.{flat_map}
use Rattle.std.proofs.Common.{◌≡◌, ℕ, List, false, Option, Some, None, Ok, Err, refl, sym, subst}
use Rattle.mtn_base.specs.declared.id.Id.{Id}
use Rattle.mtn_base.specs.declared.refusal.Cause.{Cause}
use Rattle.mtn_base.specs.declared.refusal.Cause.TheVariants.{UnknownRevision}
use Rattle.mtn_step.specs.declared.call.Call.TheVariants.{Ask}
use Rattle.mtn_step.specs.Step.{done, found, id_lines, line_text, refused, told, unless, Asked, Graphed, OfHistory, Viewed}
use Rattle.mtn_model.specs.Outcome.{Outcome}
use Rattle.mtn_history_laws.specs.History.{Revision}
use Rattle.mtn_replay.specs.Lawful.{IsHistory}
use Rattle.mtn_model.specs.State.{State}
use Rattle.mtn_answers.specs.declared.query.Query.{Query}
use Rattle.mtn_answers.specs.Queries.{first_unknown, ids_of}
use Rattle.mtn_answers.specs.Views.{TextAnswer}
use Rattle.mtn_order.specs.Free.{in_log_order, IsOrderFree, IsSameOutcome}
use Rattle.mtn_order.proofs.Queries.{kept_answer, kept_graph, same_unknown}
use Rattle.mtn_renaming.specs.Order.{IsSameUpToOrder}
use Rattle.mtn_renaming.specs.Renaming.{elsewhere, IsRenaming}
use Rattle.mtn_renaming.proofs.Spelling.{same_history}

-- the history of the other state
pub other_history : (f : List ℕ → List ℕ) (s t : State) (h : List Revision) → IsSameUpToOrder f s t → IsHistory f s.files s.log h → (g : List Revision) × IsHistory f t.files t.log g × IsRenaming h g (elsewhere h g) (elsewhere g h)
other_history f s t h same is =
    let g = same.other.history in
    (g, same.other.log, same_history f s.files s.log t.log h g same.texts is (subst (λ files. IsHistory f files t.log g) (sym same.files) same.other.log))

pub is_outcome : (f : List ℕ → List ℕ) (o x p : Outcome) → o ≡ x → IsSameOutcome f x p → IsSameOutcome f o p
is_outcome f o x p e same = subst (λ (z : Outcome). IsSameOutcome f z p) (sym e) same

module _ (f : List ℕ → List ℕ) (s t : State) (same : IsSameUpToOrder f s t) where
  pub same_done : (output : List ℕ) → IsSameOutcome f (done s output) (done t output)
  same_done output = record { output = refl; status = refl; states = same }

  pub same_refused : (cause : Cause) → IsSameOutcome f (refused cause s) (refused cause t)
  same_refused cause = record { output = refl; status = refl; states = same }

  same_told : (answer : TextAnswer) → IsSameOutcome f (told s answer) (told t answer)
  same_told (Ok text) = same_done text
  same_told (Err cause) = same_refused cause

  pub same_found : (cause : Cause) (o : Option (List ℕ)) → IsSameOutcome f (found cause s o) (found cause t o)
  same_found cause None = same_refused cause
  same_found cause (Some bytes) = same_done bytes

  pub same_unless : (r : Option Cause) (u v : State) (output : List ℕ) → (r ≡ None → IsSameUpToOrder f u v) → IsSameOutcome f (unless r s u output) (unless r t v output)
  same_unless None u v output after = record { output = refl; status = refl; states = after refl }
  same_unless (Some cause) u v output after = same_refused cause

-- What is done over one history is done over the other: the one lemma that a command about the history of the log cites
pub of_history_free : (f : List ℕ → List ℕ) (Does : List Revision → State → Outcome → Type 0) →
    ((s t : State) (h g : List Revision) (to back : ℕ → ℕ) (o : Outcome) → IsSameUpToOrder f s t → IsRenaming h g to back → Does h s o → (p : Outcome) × Does g t p × IsSameOutcome f o p) →
    IsOrderFree f (λ s o. OfHistory f s (λ h. Does h s o))
of_history_free f Does kept s t o same does =
    let h = does.0 in
    let other = other_history f s t h same does.1 in
    let g = other.0 in
    let p = kept s t h g (elsewhere h g) (elsewhere g h) o same other.2 does.2 in
    (p.0, (g, other.1, p.1), p.2)

-- an answer to a question about a history
pub viewed_free : (f : List ℕ → List ℕ) (Is : List Revision → TextAnswer → Type 0) → ((h g : List Revision) (to back : ℕ → ℕ) → IsRenaming h g to back → (answer : TextAnswer) → Is h answer → Is g answer) →
    IsOrderFree f (λ s o. OfHistory f s (λ h. Viewed (Is h) s o))
viewed_free f Is kept = of_history_free f (λ h s o. Viewed (Is h) s o) (λ s t h g to back o same is e.
    (told t e.0, (e.0, kept h g to back is e.0 e.1, refl), is_outcome f o (told s e.0) (told t e.0) e.2 (same_told f s t same e.0)))

-- the ids of a query
module _ (f : List ℕ → List ℕ) (s t : State) (same : IsSameUpToOrder f s t) (h g : List Revision) (to back : ℕ → ℕ) (is : IsRenaming h g to back) (query : Query) (free : in_log_order (Ask query) ≡ false) where
  asked : (unknown : Option Id) (o : Outcome) → Asked h query s unknown o → (p : Outcome) × Asked g query t unknown p × IsSameOutcome f o p
  asked (Some id) o e = (refused (UnknownRevision id) t, refl, is_outcome f o (refused (UnknownRevision id) s) (refused (UnknownRevision id) t) e (same_refused f s t same (UnknownRevision id)))
  asked None o e =
      let ids = e.0 in
      (done t (id_lines ids), (ids, kept_answer h g to back is query ids free e.1, refl), is_outcome f o (done s (id_lines ids)) (done t (id_lines ids)) e.2 (same_done f s t same (id_lines ids)))

  asked_there : (o : Outcome) → Asked h query s (first_unknown h (ids_of query)) o → (p : Outcome) × Asked g query t (first_unknown g (ids_of query)) p × IsSameOutcome f o p
  asked_there o e = subst (λ unknown. (p : Outcome) × Asked g query t unknown p × IsSameOutcome f o p) (sym (same_unknown h g to back is (ids_of query))) (asked (first_unknown h (ids_of query)) o e)

pub asked_free : (f : List ℕ → List ℕ) (query : Query) → in_log_order (Ask query) ≡ false → IsOrderFree f (λ s o. OfHistory f s (λ h. Asked h query s (first_unknown h (ids_of query)) o))
asked_free f query free = of_history_free f (λ h s o. Asked h query s (first_unknown h (ids_of query)) o) (λ s t h g to back o same is e. asked_there f s t same h g to back is query free o e)

-- the lines of the graph
pub graphed_free : (f : List ℕ → List ℕ) → IsOrderFree f (λ s o. OfHistory f s (λ h. Graphed h s o))
graphed_free f = of_history_free f Graphed (λ s t h g to back o same is e.
    let text = flat_map line_text e.0 in
    (done t text, (e.0, kept_graph h g to back is e.0 e.1, refl), is_outcome f o (done s text) (done t text) e.2 (same_done f s t same text)))
