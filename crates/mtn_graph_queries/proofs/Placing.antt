-- Ids that a query names, one after the other, and where they stand.
use Rattle.std.specs.Prelude.{Contains, is_none, if◌then◌else◌}
use Rattle.std.specs.List.{AllZip}
use Rattle.std.proofs.Common.{◌≡◌, ◌<◌, ℕ, zero, suc, List, [], ◌∷◌, ◌++◌, ◌+◌, false, Option, Some, None, length, get_or, take, refl, sym, ap, ◌∙◌, subst, ⊎_elim, arith}
use Rattle.std.proofs.lemmas.List.{take_more}
use Rattle.mtn_base.specs.declared.id.Id.{Id}
use Rattle.mtn_history_laws.specs.History.{Revision, IsPlaceOf}
use Rattle.mtn_replay.specs.Making.{place_of}
use Rattle.mtn_replay.proofs.Places.{no_place}
use Rattle.mtn_graph_queries.specs.declared.query.QueryError.{QueryError}
use Rattle.mtn_graph_queries.specs.declared.query.QueryError.TheVariants.{Unknown, NoMemory}
use Rattle.mtn_graph_queries.specs.Queries.{NamesUnknown}
use Rattle.mtn_answers.specs.Queries.{first_unknown}
use Rattle.mtn_base.proofs.IdOrder.{contains_nil, contains_head, contains_later, contains_cases}

module _ (h : List Revision) where
  -- a held id is known
  pub is_known : (x : Id) (a : ℕ) → IsPlaceOf h x a → is_none (place_of h x) ≡ false
  is_known x a at = by (place_of h x) refl
    where
      by : (o : Option ℕ) → place_of h x ≡ o → is_none (place_of h x) ≡ false
      by None none = absurd (no_place h x none a at)
      by (Some b) some = ap is_none some

  pub passed : (x : Id) (rest : List Id) (a : ℕ) → IsPlaceOf h x a → first_unknown h (x ∷ rest) ≡ first_unknown h rest
  passed x rest a at = ap (λ b. if b then Some x else first_unknown h rest) (is_known x a at)

  pub stopped : (x : Id) (rest : List Id) → place_of h x ≡ None → first_unknown h (x ∷ rest) ≡ Some x
  stopped x rest none = ap (λ o. if is_none o then Some x else first_unknown h rest) none

  pub all_known : (ids : List Id) (at : List ℕ) → AllZip (IsPlaceOf h) ids at → first_unknown h ids ≡ None
  all_known [] at zip = refl
  all_known (x ∷ ids) [] zip = absurd zip
  all_known (x ∷ ids) (a ∷ at) zip = passed x ids a zip.0 ∙ all_known ids at zip.1

  -- the first id behind known ones that is not
  pub first_behind : (ids : List Id) (i : ℕ) (at : List ℕ) (x : Id) → AllZip (IsPlaceOf h) (take i ids) at → i < length ids → x ≡ get_or ids i x → place_of h x ≡ None → first_unknown h ids ≡ Some x
  first_behind [] i at x zip lt is none = absurd (omega arith)
  first_behind (y ∷ ids) zero at x zip lt is none = subst (λ z. first_unknown h (z ∷ ids) ≡ Some x) is (stopped x ids none)
  first_behind (y ∷ ids) (suc i) [] x zip lt is none = absurd zip
  first_behind (y ∷ ids) (suc i) (a ∷ at) x zip lt is none = passed y ids a zip.0 ∙ first_behind ids i at x zip.1 (omega arith) is none

  zip_push : (ids : List Id) (at : List ℕ) (x : Id) (a : ℕ) → AllZip (IsPlaceOf h) ids at → IsPlaceOf h x a → AllZip (IsPlaceOf h) (ids ++ x ∷ []) (at ++ a ∷ [])
  zip_push [] [] x a zip new = (new, tt)
  zip_push [] (b ∷ at) x a zip new = absurd zip
  zip_push (y ∷ ids) [] x a zip new = absurd zip
  zip_push (y ∷ ids) (b ∷ at) x a zip new = (zip.0, zip_push ids at x a zip.1 new)

  -- one more id has a place
  pub zip_more : (ids : List Id) (i : ℕ) (at : List ℕ) (x : Id) (a : ℕ) → AllZip (IsPlaceOf h) (take i ids) at → i < length ids → x ≡ get_or ids i x → IsPlaceOf h x a → AllZip (IsPlaceOf h) (take (i + 1) ids) (at ++ a ∷ [])
  zip_more ids i at x a zip lt is new =
      subst (λ l. AllZip (IsPlaceOf h) l (at ++ a ∷ [])) (sym (take_more ids i x lt)) (subst (λ y. AllZip (IsPlaceOf h) (take i ids ++ y ∷ []) (at ++ a ∷ [])) is (zip_push (take i ids) at x a zip new))

  one_unknown : (id x : Id) → first_unknown h (id ∷ []) ≡ Some x → (id ≡ x) × (place_of h id ≡ None)
  one_unknown id x is = by (place_of h id) refl is
    where
      by : (o : Option ℕ) → place_of h id ≡ o → (if is_none o then Some id else None) ≡ Some x → (id ≡ x) × (place_of h id ≡ None)
      by None none e = (let same : id ≡ x = cc in same, none)
      by (Some a) some e = absurd cc

  pub names_behind : (ids : List Id) (i : ℕ) (at : List ℕ) (id : Id) (e : QueryError) → AllZip (IsPlaceOf h) (take i ids) at → i < length ids → id ≡ get_or ids i id → NamesUnknown h (id ∷ []) e → NamesUnknown h ids e
  names_behind ids i at id NoMemory zip lt is names = tt
  names_behind ids i at id (Unknown x) zip lt is names = let one = one_unknown id x names in first_behind ids i at id zip lt is one.1 ∙ ap Some one.0

  -- an id that is first of all
  pub names_first : (id : Id) (rest : List Id) (e : QueryError) → NamesUnknown h (id ∷ []) e → NamesUnknown h (id ∷ rest) e
  names_first id rest NoMemory names = tt
  names_first id rest (Unknown x) names = let one = one_unknown id x names in stopped id rest one.1 ∙ ap Some one.0

  pub names_rest : (id : Id) (a : ℕ) (rest : List Id) (e : QueryError) → IsPlaceOf h id a → NamesUnknown h rest e → NamesUnknown h (id ∷ rest) e
  names_rest id a rest NoMemory at names = tt
  names_rest id a rest (Unknown x) at names = passed id rest a at ∙ names

  -- each id has a position in the list, and each position an id
  pub stands : (ids : List Id) (at : List ℕ) → AllZip (IsPlaceOf h) ids at → (x : Id) → Contains ids x → (a : ℕ) × Contains at a × IsPlaceOf h x a
  stands [] at zip x c = absurd (contains_nil c)
  stands (y ∷ ids) [] zip x c = absurd zip
  stands (y ∷ ids) (a ∷ at) zip x c = ⊎_elim (λ e. (a, contains_head a at, subst (λ z. IsPlaceOf h z a) e zip.0)) (λ d. let s = stands ids at zip.1 x d in (s.0, contains_later a at s.1, s.2)) (contains_cases y ids x c)

  pub stood : (ids : List Id) (at : List ℕ) → AllZip (IsPlaceOf h) ids at → (a : ℕ) → Contains at a → (x : Id) × Contains ids x × IsPlaceOf h x a
  stood ids [] zip a c = absurd (contains_nil c)
  stood [] (b ∷ at) zip a c = absurd zip
  stood (y ∷ ids) (b ∷ at) zip a c = ⊎_elim (λ e. (y, contains_head y ids, subst (IsPlaceOf h y) e zip.0)) (λ d. let s = stood ids at zip.1 a d in (s.0, contains_later y ids s.1, s.2)) (contains_cases b at a c)
