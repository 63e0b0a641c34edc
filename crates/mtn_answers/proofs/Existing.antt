-- Each query has an answer, and each scalar the ids of its marks.
use Rattle.std.specs.Prelude.{Contains, slice_get, map, All, is_none, unwrap_or}
use Rattle.std.specs.List.Sorted.{IsStrictlySortedBy}
use Rattle.std.specs.Cmp.{nat_cmp_is}
use Rattle.std.specs.Ordering.{nat_cmp}
use Rattle.std.specs.declared.cmp.Ordering.TheVariants.{Less}
use Rattle.std.proofs.Common.{◌≡◌, ◌<◌, ◌≤◌, ◌+◌, ℕ, zero, suc, cond, List, [], ◌∷◌, length, Option, Some, None, refl, sym, ap, ◌∙◌, subst, ⊎_elim, arith}
use Rattle.std.proofs.Math.Decide.{ℕ_discrete}
use Rattle.std.proofs.lemmas.List.Elements.{All-nil, All-cons}
use Rattle.mtn_ancestry.proofs.Members.{Contains-nil, Contains-head, Contains-later, Contains-cases}
use Rattle.mtn_answers.specs.Lines.{HasParents, IsGraph}
use Rattle.mtn_base.specs.Lists.{IsListOf}
use Rattle.mtn_answers.specs.Queries.{IsHeld, IsParent, IsAsked, IsAnswer, by_place, first_unknown, ids_of}
use Rattle.mtn_answers.specs.declared.query.Line.{Line}
use Rattle.mtn_answers.specs.declared.query.Query.{Query}
use Rattle.mtn_answers.specs.declared.query.Query.TheVariants.{Parents, Children, Ancestors, Descendents, CommonAncestors, EraseAncestors, Toposort, AncestryDifference, Leaves, Roots}
use Rattle.mtn_answers.proofs.Deciding.{tell_asked, tell_held, tell_parent}
use Rattle.mtn_answers.proofs.Lists.{each_to, sorted_nil, sorted_cons}
use Rattle.mtn_base.specs.declared.id.Id.{Id}
use Rattle.mtn_history_laws.specs.History.{Revision, IsGrown, IsPlaceOf}
use Rattle.mtn_base.specs.Ids.{by_id, in_id_order}
use Rattle.mtn_base.proofs.IdOrder.{in_order_ascends, in_order_same}
use Rattle.mtn_replay.specs.Making.{place_of}
use Rattle.mtn_replay.proofs.Places.{no_place, place_has, inside}

-- ids of the revisions of the history from a place on, those with P
record IsKeptFrom (h : List Revision) (P : Id → Type 0) (k : ℕ) (ids : List Id) : Type 0 where
  ascending : IsStrictlySortedBy (by_place h) ids
  low : (x : Id) → Contains ids x → (a : ℕ) × (k ≤ a) × IsPlaceOf h x a × P x
  all : (x : Id) (a : ℕ) → IsPlaceOf h x a → k ≤ a → P x → Contains ids x

module _ (h : List Revision) (grown : IsGrown h) (P : Id → Type 0) (tell : (x : Id) → Dec (P x)) where
  -- a place is that of its revision
  place_is : (x : Id) (a : ℕ) → IsPlaceOf h x a → place_of h x ≡ Some a
  place_is x a is = by (place_of h x) refl
    where
      by : (o : Option ℕ) → place_of h x ≡ o → place_of h x ≡ Some a
      by None e = absurd (no_place h x e a is)
      by (Some b) e = e ∙ ap Some (grown.differ x b a (place_has h x b e) is)

  less_of : (a b : ℕ) → a < b → nat_cmp a b ≡ Less
  less_of a b lt = sym (nat_cmp_is a b Less lt)

  before : (x y : Id) (a b : ℕ) → IsPlaceOf h x a → IsPlaceOf h y b → a < b → by_place h x y ≡ Less
  before x y a b p q lt =
      ap (λ o. nat_cmp (unwrap_or o (length h)) (unwrap_or (place_of h y) (length h))) (place_is x a p)
      ∙ ap (λ o. nat_cmp a (unwrap_or o (length h))) (place_is y b q) ∙ less_of a b lt

  with_one : (k : ℕ) (v : Revision) (ids : List Id) → slice_get h k ≡ Some v → IsKeptFrom h P (suc k) ids → Dec (P v.id) → (new : List Id) × IsKeptFrom h P k new
  with_one k v ids at kept (yes p) = (
    v.id ∷ ids,
    record {
      ascending = sorted_cons (by_place h) v.id ids (each_to (λ y. by_place h v.id y ≡ Less) ids (λ y c. let l = kept.low y c in before v.id y k l.0 (v, at, refl) l.2 (omega (arith, l.1)))) kept.ascending;
      low = λ x c. ⊎_elim (λ e. (k, omega arith, (v, at, e), subst P e p)) (λ d. let l = kept.low x d in (l.0, omega (arith, l.1), l.2, l.3)) (Contains-cases v.id ids x c);
      all = λ x a is le px. elim (ℕ_discrete k a) [
        | yes e ↦ subst (Contains (v.id ∷ ids)) (grown_id a is e) (Contains-head v.id ids)
        | no n ↦ Contains-later v.id ids (kept.all x a is (omega (arith, le, n)) px)
      ];
    },
  )
    where
      grown_id : {x : Id} (a : ℕ) → (is : IsPlaceOf h x a) → k ≡ a → v.id ≡ x
      grown_id a is e = let same : v ≡ is.0 = (let t = sym at ∙ ap (slice_get h) e ∙ is.1 in cc) in ap (λ (w : Revision). w.id) same ∙ is.2
  with_one k v ids at kept (no n) = (
    ids,
    record {
      ascending = kept.ascending;
      low = λ x c. let l = kept.low x c in (l.0, omega (arith, l.1), l.2, l.3);
      all = λ x a is le px. elim (ℕ_discrete k a) [
        | yes e ↦ absurd (n (subst P (sym (the_id a is e)) px))
        | no m ↦ kept.all x a is (omega (arith, le, m)) px
      ];
    },
  )
    where
      the_id : {x : Id} (a : ℕ) → (is : IsPlaceOf h x a) → k ≡ a → v.id ≡ x
      the_id a is e = let same : v ≡ is.0 = (let t = sym at ∙ ap (slice_get h) e ∙ is.1 in cc) in ap (λ (w : Revision). w.id) same ∙ is.2

  step_down : (k : ℕ) (o : Option Revision) → slice_get h k ≡ o → (ids : List Id) × IsKeptFrom h P (suc k) ids → (ids : List Id) × IsKeptFrom h P k ids
  step_down k None at kept = (
    kept.0,
    record {
      ascending = kept.1.ascending;
      low = λ x c. let l = kept.1.low x c in (l.0, omega (arith, l.1), l.2, l.3);
      all = λ x a is le px. elim (ℕ_discrete k a) [
        | yes e ↦ absurd (let t = sym at ∙ ap (slice_get h) e ∙ is.1 in cc)
        | no m ↦ kept.1.all x a is (omega (arith, le, m)) px
      ];
    },
  )
  step_down k (Some v) at kept = with_one k v kept.0 at kept.1 (tell v.id)

  down : (n k : ℕ) → length h ≤ n + k → (ids : List Id) × IsKeptFrom h P k ids
  down zero k long = (
    [],
    record {
      ascending = sorted_nil (by_place h);
      low = λ x c. absurd (Contains-nil c);
      all = λ x a is le px. absurd (let lt = inside h a is.0 is.1 in omega (arith, lt, le, long));
    },
  )
  down (suc n) k long = step_down k (slice_get h k) refl (down n (suc k) (omega (arith, long)))

  -- those with P in the order of the log, and by ascending ids
  pub listed_by_place : ((x : Id) → P x → IsHeld h x) → (ids : List Id) × IsListOf (by_place h) P ids
  listed_by_place held =
      let kept = down (length h) 0 (omega arith) in
      (kept.0, record { ascending = kept.1.ascending; exact = λ x. (λ c. (kept.1.low x c).3, λ p. let is = held x p in kept.1.all x is.0 is.1 (omega arith) p) })

  pub listed_by_id : ((x : Id) → P x → IsHeld h x) → (ids : List Id) × IsListOf by_id P ids
  listed_by_id held =
      let given = listed_by_place held in (
        in_id_order given.0,
        record {
          ascending = in_order_ascends given.0;
          exact = λ x. (λ c. (given.1.exact x).0 ((in_order_same given.0 x).0 c), λ p. (in_order_same given.0 x).1 ((given.1.exact x).1 p));
        },
      )

-- ids that are known are held
known_held : (h : List Revision) (ids : List Id) → first_unknown h ids ≡ None → (x : Id) → Contains ids x → IsHeld h x
known_held h [] none x c = absurd (Contains-nil c)
known_held h (y ∷ ids) none x c = by (place_of h y) refl none (λ rest d. known_held h ids rest x d)
  where
    by : (o : Option ℕ) → place_of h y ≡ o → cond (is_none o) (Some y) (first_unknown h ids) ≡ None → (first_unknown h ids ≡ None → Contains ids x → IsHeld h x) → IsHeld h x
    by None e n later = absurd cc
    by (Some a) e n later = ⊎_elim (λ same. (a, subst (λ z. IsPlaceOf h z a) same (place_has h y a e))) (λ d. later n d) (Contains-cases y ids x c)

module _ (h : List Revision) (grown : IsGrown h) where
  -- what is asked for is held
  asked_held : (q : Query) → first_unknown h (ids_of q) ≡ None → (x : Id) → IsAsked h q x → IsHeld h x
  asked_held (Parents r) known x is = (is.0, is.2)
  asked_held (Children r) known x is = (is.1, is.3)
  asked_held (Ancestors of) known x is = let up = is.2.1 in (up.0, up.2)
  asked_held (Descendents of) known x is = let up = is.2.1 in (up.1, up.3)
  asked_held (CommonAncestors r others) known x is = let up = is.0 in (up.0, up.2)
  asked_held (EraseAncestors of) known x is = known_held h of known x is.0
  asked_held (Toposort of) known x is = known_held h of known x is
  asked_held (AncestryDifference r without) known x is = let up = is.0 in (up.0, up.2)
  asked_held Leaves known x is = is.0
  asked_held Roots known x is = is.0

  in_ids : (q : Query) → first_unknown h (ids_of q) ≡ None → (ids : List Id) × IsListOf by_id (IsAsked h q) ids
  in_ids q known = listed_by_id h grown (IsAsked h q) (tell_asked h grown q) (asked_held q known)

  in_places : (q : Query) → first_unknown h (ids_of q) ≡ None → (ids : List Id) × IsListOf (by_place h) (IsAsked h q) ids
  in_places q known = listed_by_place h grown (IsAsked h q) (tell_asked h grown q) (asked_held q known)

  pub some_answer : (q : Query) → first_unknown h (ids_of q) ≡ None → (ids : List Id) × IsAnswer h q ids
  some_answer (Parents r) known = in_ids (Parents r) known
  some_answer (Children r) known = in_ids (Children r) known
  some_answer (Ancestors of) known = in_ids (Ancestors of) known
  some_answer (Descendents of) known = in_ids (Descendents of) known
  some_answer (CommonAncestors r others) known = in_ids (CommonAncestors r others) known
  some_answer (EraseAncestors of) known = in_ids (EraseAncestors of) known
  some_answer (Toposort of) known = in_places (Toposort of) known
  some_answer (AncestryDifference r without) known = in_places (AncestryDifference r without) known
  some_answer Leaves known = in_ids Leaves known
  some_answer Roots known = in_ids Roots known

  parents_of_id : (r : Id) → (ids : List Id) × IsListOf by_id (λ x. IsParent h x r) ids
  parents_of_id r = listed_by_id h grown (λ x. IsParent h x r) (λ x. tell_parent h grown x r) (λ x is. (is.0, is.2))

  abbrev line_of : Id → Line
  line_of r = record { id = r; parents = (parents_of_id r).0 }

  lines_of : (ids : List Id) → map (λ (line : Line). line.id) (map line_of ids) ≡ ids
  lines_of [] = refl
  lines_of (r ∷ ids) = ap (λ rest. r ∷ rest) (lines_of ids)

  have_parents : (ids : List Id) → All (HasParents h) (map line_of ids)
  have_parents [] = All-nil (HasParents h)
  have_parents (r ∷ ids) = All-cons (HasParents h) (line_of r) (map line_of ids) (parents_of_id r).1 (have_parents ids)

  pub some_graph : (lines : List Line) × IsGraph h lines
  some_graph =
      let ids = listed_by_id h grown (IsHeld h) (tell_held h grown) (λ x is. is) in
      (map line_of ids.0, record { ids = subst (IsListOf by_id (IsHeld h)) (sym (lines_of ids.0)) ids.1; parents = have_parents ids.0 })
