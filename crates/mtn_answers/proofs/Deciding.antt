-- Whether a question of the graph holds of an id can be told.
use Rattle.std.specs.Prelude.{Contains}
use Rattle.std.proofs.Common.{◌≡◌, ℕ, zero, suc, List, [], ◌∷◌, Option, Some, None, refl, sym, ap, ◌∙◌, subst, ⊎_elim}
use Rattle.mtn_ancestry.specs.Ancestors.{IsAncestor}
use Rattle.mtn_ancestry.proofs.Ancestry.{tell_ancestor}
use Rattle.mtn_ancestry.proofs.Members.{Contains-nil, Contains-head, Contains-later, Contains-cases, tell_contains}
use Rattle.mtn_answers.specs.Queries.{IsHeld, IsParent, IsAbove, IsProperlyAbove, IsAsked}
use Rattle.mtn_answers.specs.declared.query.Query.{Query}
use Rattle.mtn_answers.specs.declared.query.Query.TheVariants.{Parents, Children, Ancestors, Descendents, CommonAncestors, EraseAncestors, Toposort, AncestryDifference, Leaves, Roots}
use Rattle.mtn_base.specs.declared.id.Id.{Id}
use Rattle.mtn_history_laws.specs.History.{Revision, IsGrown, IsPlaceOf, parents_at}
use Rattle.mtn_history_laws.proofs.Telling.{tell_id}
use Rattle.mtn_replay.specs.Making.{place_of}
use Rattle.mtn_replay.proofs.Places.{no_place, place_has}

pub tell_not : {A : Type 0} → Dec A → Dec (¬ A)
tell_not (yes a) = no (λ n. n a)
tell_not (no n) = yes n

pub tell_two : {A B : Type 0} → Dec A → Dec B → Dec (A × B)
tell_two (yes a) (yes b) = yes (a, b)
tell_two (no n) b = no (λ t. n t.0)
tell_two (yes a) (no n) = no (λ t. n t.1)

-- one of these has P, or none
pub tell_some : {X : Type 0} (P : X → Type 0) (xs : List X) → ((y : X) → Dec (P y)) → Dec ((y : X) × Contains xs y × P y)
tell_some P [] d = no (λ t. Contains-nil t.1)
tell_some P (x ∷ xs) d =
    elim (d x) [
      | yes p ↦ yes (x, Contains-head x xs, p)
      | no n ↦ elim (tell_some P xs d) [
        | yes t ↦ yes (t.0, Contains-later x xs t.1, t.2)
        | no m ↦ no (λ t. ⊎_elim (λ e. n (subst P (sym e) t.2)) (λ c. m (t.0, c, t.2)) (Contains-cases x xs t.0 t.1))
      ]
    ]

-- all of these have P, or not
pub tell_all : {X : Type 0} (P : X → Type 0) (xs : List X) → ((y : X) → Dec (P y)) → Dec ((y : X) → Contains xs y → P y)
tell_all P xs d =
    elim (tell_some (λ y. ¬ P y) xs (λ y. tell_not (d y))) [
      | yes t ↦ no (λ all. t.2 (all t.0 t.1))
      | no n ↦ yes (λ y c. elim (d y) [ yes p ↦ p | no m ↦ absurd (n (y, c, m)) ])
    ]

pub tell_among : (ids : List Id) (x : Id) → Dec (Contains ids x)
tell_among ids x =
    elim (tell_some (λ y. y ≡ x) ids (λ y. tell_id y x)) [
      | yes t ↦ yes (subst (Contains ids) t.2 t.1)
      | no n ↦ no (λ c. n (x, c, refl))
    ]

module _ (h : List Revision) (grown : IsGrown h) where
  -- a fact of the only place of an id
  pub at_place : (P : ℕ → Type 0) (x : Id) → ((a : ℕ) → Dec (P a)) → Dec ((a : ℕ) × IsPlaceOf h x a × P a)
  at_place P x d = by (place_of h x) refl
    where
      here : (a : ℕ) → IsPlaceOf h x a → Dec (P a) → Dec ((a : ℕ) × IsPlaceOf h x a × P a)
      here a is (yes p) = yes (a, is, p)
      here a is (no n) = no (λ t. n (subst P (grown.differ x t.0 a t.1 is) t.2))

      by : (o : Option ℕ) → place_of h x ≡ o → Dec ((a : ℕ) × IsPlaceOf h x a × P a)
      by None e = no (λ t. no_place h x e t.0 t.1)
      by (Some a) e = here a (place_has h x a e) (d a)

  pub tell_held : (x : Id) → Dec (IsHeld h x)
  tell_held x = elim (at_place (λ a. a ≡ a) x (λ a. yes refl)) [ yes t ↦ yes (t.0, t.1) | no n ↦ no (λ t. n (t.0, t.1, refl)) ]

  -- a fact of the only places of two ids
  at_places : (P : ℕ → ℕ → Type 0) (x r : Id) → ((a b : ℕ) → Dec (P a b)) → Dec ((a b : ℕ) × IsPlaceOf h x a × IsPlaceOf h r b × P a b)
  at_places P x r d =
      elim (at_place (λ a. (b : ℕ) × IsPlaceOf h r b × P a b) x (λ a. at_place (P a) r (d a))) [
        | yes t ↦ yes (t.0, t.2.0, t.1, t.2.1, t.2.2)
        | no n ↦ no (λ t. n (t.0, t.2, (t.1, t.3, t.4)))
      ]

  pub tell_parent : (x r : Id) → Dec (IsParent h x r)
  tell_parent x r = at_places (λ a b. Contains (parents_at h b) a) x r (λ a b. tell_contains (parents_at h b) a)

  pub tell_above : (x r : Id) → Dec (IsAbove h x r)
  tell_above x r = at_places (λ a b. IsAncestor (parents_at h) a b) x r (λ a b. tell_ancestor grown.earlier b a)

  pub tell_properly : (x r : Id) → Dec (IsProperlyAbove h x r)
  tell_properly x r = tell_two (tell_not (tell_id x r)) (tell_above x r)

  -- one revision of the history has P, or none; each with P is one
  tell_any : (P : Id → Type 0) → ((x : Id) → P x → IsHeld h x) → ((x : Id) → Dec (P x)) → Dec ((x : Id) × P x)
  tell_any P held d = elim (tell_some P (ids_in h) d) [
    | yes t ↦ yes (t.0, t.2)
    | no n ↦ no (λ t. n (t.0, among h (held t.0 t.1).0 (held t.0 t.1).1, t.1))
  ]
    where
      ids_in : List Revision → List Id
      ids_in [] = []
      ids_in (v ∷ vs) = v.id ∷ ids_in vs

      among : (vs : List Revision) {x : Id} (a : ℕ) → IsPlaceOf vs x a → Contains (ids_in vs) x
      among [] a is = absurd (let e = is.1 in cc)
      among (v ∷ vs) {x} zero is = subst (Contains (ids_in (v ∷ vs))) (let e : v ≡ is.0 = (let g = is.1 in cc) in ap (λ (w : Revision). w.id) e ∙ is.2) (Contains-head v.id (ids_in vs))
      among (v ∷ vs) {x} (suc a) is = Contains-later v.id (ids_in vs) (among vs a (is.0, is.1, is.2))

  pub tell_asked : (q : Query) (x : Id) → Dec (IsAsked h q x)
  tell_asked (Parents r) x = tell_parent x r
  tell_asked (Children r) x = tell_parent r x
  tell_asked (Ancestors of) x = tell_some (λ r. IsProperlyAbove h x r) of (λ r. tell_properly x r)
  tell_asked (Descendents of) x = tell_some (λ r. IsProperlyAbove h r x) of (λ r. tell_properly r x)
  tell_asked (CommonAncestors r others) x = tell_two (tell_above x r) (tell_all (λ o. IsAbove h x o) others (λ o. tell_above x o))
  tell_asked (EraseAncestors of) x = tell_two (tell_among of x) (tell_all (λ r. ¬ IsProperlyAbove h x r) of (λ r. tell_not (tell_properly x r)))
  tell_asked (Toposort of) x = tell_among of x
  tell_asked (AncestryDifference r without) x = tell_two (tell_above x r) (tell_all (λ o. ¬ IsAbove h x o) without (λ o. tell_not (tell_above x o)))
  tell_asked Leaves x = tell_two (tell_held x) (none_of (λ c. IsParent h x c) (λ c is. (is.1, is.3)) (λ c. tell_parent x c))
    where
      none_of : (P : Id → Type 0) → ((c : Id) → P c → IsHeld h c) → ((c : Id) → Dec (P c)) → Dec ((c : Id) → ¬ P c)
      none_of P held d = elim (tell_any P held d) [ yes t ↦ no (λ all. all t.0 t.1) | no n ↦ yes (λ c p. n (c, p)) ]
  tell_asked Roots x = tell_two (tell_held x) (none_of (λ p. IsParent h p x) (λ p is. (is.0, is.2)) (λ p. tell_parent p x))
    where
      none_of : (P : Id → Type 0) → ((c : Id) → P c → IsHeld h c) → ((c : Id) → Dec (P c)) → Dec ((c : Id) → ¬ P c)
      none_of P held d = elim (tell_any P held d) [ yes t ↦ no (λ all. all t.0 t.1) | no n ↦ yes (λ c p. n (c, p)) ]
