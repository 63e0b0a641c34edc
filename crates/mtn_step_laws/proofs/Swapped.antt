-- A merge is the same in both orders of the words.
use Rattle.std.specs.Prelude.{is_none, option_map, if◌then◌else◌}
use Rattle.std.specs.Ordering.{is_lt, ordering_reverse}
use Rattle.std.specs.declared.cmp.Ordering.{Ordering}
use Rattle.std.specs.declared.cmp.Ordering.TheVariants.{Less, Equal, Greater}
use Rattle.std.proofs.Common.{◌≡◌, ℕ, Bool, cond, List, Option, Some, None, refl, sym, ◌∙◌, ap, subst}
use Rattle.mtn_answers.specs.Queries.{IsHeld}
use Rattle.mtn_base.specs.Ids.{by_id}
use Rattle.mtn_base.specs.declared.id.Id.{Id}
use Rattle.mtn_base.specs.declared.refusal.Cause.TheVariants.{UnknownRevision}
use Rattle.mtn_base.proofs.Orders.{bytes_total, exact_bytes}
use Rattle.mtn_changeset_laws.specs.Changes.{or_else}
use Rattle.mtn_history_laws.specs.History.{Revision}
use Rattle.mtn_model.specs.Outcome.{Outcome}
use Rattle.mtn_model.specs.State.{State}
use Rattle.mtn_plans.specs.Plans.{Looks, LooksAtSides, Merges, Plan, PlansPayload, Unless}
use Rattle.mtn_plans.specs.Sides.{left_of, related, right_of, side_refusal}
use Rattle.mtn_replay.specs.Making.{place_of}
use Rattle.mtn_replay.proofs.Histories.{one_history}
use Rattle.mtn_replay.proofs.Places.{no_place}
use Rattle.mtn_step.specs.Step.{Ended, OfHistory, Planned, PutsRevision, Shown, Steps}
use Rattle.mtn_step.specs.declared.call.Call.TheVariants.{Merge, ShowConflicts}
use Rattle.mtn_step_laws.specs.Held.{IsHeldIn}

-- the sides are the same, whichever was named first
same_ids : (a b : Id) → by_id a b ≡ Equal → a ≡ b
same_ids a b e = λ i. record { 0 = exact_bytes a.0 b.0 e i }

by_orders : (a b : Id) (o : Ordering) → by_id a b ≡ o → by_id b a ≡ ordering_reverse o → (left_of a b ≡ left_of b a) × (right_of a b ≡ right_of b a)
by_orders a b Less e f = (
  ap (λ u. if is_lt u then b else a) f ∙ sym (ap (λ u. if is_lt u then a else b) e),
  ap (λ u. if is_lt u then a else b) f ∙ sym (ap (λ u. if is_lt u then b else a) e),
)
by_orders a b Equal e f = let same = same_ids a b e in (
  ap (λ u. if is_lt u then b else a) f ∙ same ∙ sym (ap (λ u. if is_lt u then a else b) e),
  ap (λ u. if is_lt u then a else b) f ∙ sym same ∙ sym (ap (λ u. if is_lt u then b else a) e),
)
by_orders a b Greater e f = (
  ap (λ u. if is_lt u then b else a) f ∙ sym (ap (λ u. if is_lt u then a else b) e),
  ap (λ u. if is_lt u then a else b) f ∙ sym (ap (λ u. if is_lt u then b else a) e),
)

same_sides : (a b : Id) → (left_of a b ≡ left_of b a) × (right_of a b ≡ right_of b a)
same_sides a b = by_orders a b (by_id a b) refl (bytes_total.antisymm b.0 a.0)

-- a revision that is held has a place
placed : (h : List Revision) (a : Id) → IsHeld h a → (p : ℕ) × (place_of h a ≡ Some p)
placed h a held = go (place_of h a) refl
  where
    go : (o : Option ℕ) → place_of h a ≡ o → (p : ℕ) × (o ≡ Some p)
    go None e = absurd (no_place h a e held.0 held.1)
    go (Some p) e = (p, refl)

known : (h : List Revision) (a b : Id) (p q : ℕ) → place_of h a ≡ Some p → place_of h b ≡ Some q → side_refusal h a b ≡ related h (left_of a b) (right_of a b)
known h a b p q e f =
    ap (λ o. or_else (option_map UnknownRevision (cond (is_none o) (Some a) (cond (is_none (place_of h b)) (Some b) None))) (related h (left_of a b) (right_of a b))) e
    ∙ ap (λ o. or_else (option_map UnknownRevision (cond (is_none o) (Some b) None)) (related h (left_of a b) (right_of a b))) f

module _ (h : List Revision) (a b : Id) (ia : IsHeld h a) (ib : IsHeld h b) where
  refusals : side_refusal h a b ≡ side_refusal h b a
  refusals =
      let p = placed h a ia in
      let q = placed h b ib in
      let sides = same_sides a b in
      known h a b p.0 q.0 p.1 q.1 ∙ ap (λ x. related h x (right_of a b)) sides.0 ∙ ap (related h (left_of b a)) sides.1 ∙ sym (known h b a q.0 p.0 q.1 p.1)

  turned : (Is : Id → Id → Plan → Type 0) (plan : Plan) → Unless (side_refusal h a b) (Is (left_of a b) (right_of a b)) plan → Unless (side_refusal h b a) (Is (left_of b a) (right_of b a)) plan
  turned Is plan is =
      let sides = same_sides a b in
      subst (λ o. Unless o (Is (left_of b a) (right_of b a)) plan) refusals
      (subst (λ x. Unless (side_refusal h a b) (Is (left_of b a) x) plan) sides.1
      (subst (λ x. Unless (side_refusal h a b) (Is x (right_of a b)) plan) sides.0 is))

module _ (f : List ℕ → List ℕ) (s : State) (a b : Id) where
  same_history : (P Q : List Revision → Type 0) → OfHistory f s P → (x : OfHistory f s Q) → P x.0
  same_history P Q is also = subst P (one_history f s.files s.log is.0 also.0 is.1 also.1) is.2

  pub merge_turned : (resolves : Bool) (payload : List ℕ) (o : Outcome) → IsHeldIn f s a → IsHeldIn f s b → Steps f (Merge a b resolves) payload s o → Steps f (Merge b a resolves) payload s o
  merge_turned resolves payload o ha hb is =
      let Was = λ (h : List Revision). Planned (Merges f s.files h a b resolves payload) (Ended (PutsRevision f) s o) in
      let ia = same_history (λ h. IsHeld h a) Was ha is in
      let ib = same_history (λ h. IsHeld h b) Was hb is in
      (is.0, is.1, (is.2.0, turned is.0 a b ia ib (λ l r. PlansPayload f is.0 l r s.files resolves payload) is.2.0 is.2.1, is.2.2))

  pub shown_turned : (payload : List ℕ) (o : Outcome) → IsHeldIn f s a → IsHeldIn f s b → Steps f (ShowConflicts a b) payload s o → Steps f (ShowConflicts b a) payload s o
  shown_turned payload o ha hb is =
      let Was = λ (h : List Revision). Planned (Looks h a b) (Shown s o) in
      let ia = same_history (λ h. IsHeld h a) Was ha is in
      let ib = same_history (λ h. IsHeld h b) Was hb is in
      (is.0, is.1, (is.2.0, turned is.0 a b ia ib (λ l r. LooksAtSides is.0 l r) is.2.0 is.2.1, is.2.2))
