-- What a binary search finds in a list that ascends by a key.
use Rattle.std.specs.Prelude.{map, option_and_then, slice_get}
use Rattle.std.specs.List.{list_all}
use Rattle.std.specs.List.Sorted.{IsBinarySearchResult, IsSearchInRange}
use Rattle.std.specs.Result.{result_ok}
use Rattle.std.specs.declared.cmp.Ordering.{Ordering}
use Rattle.std.specs.declared.cmp.Ordering.TheVariants.{Less, Equal, Greater}
use Rattle.std.specs.Ordering.{is_lt, ordering_reverse}
use Rattle.std.specs.Cmp.{IsTotalOrder, first_so, second_so, tied_itself}
use Rattle.std.proofs.Common.{◌≡◌, ℕ, zero, suc, ◌+◌, ◌<◌, true, false, List, [], ◌∷◌, length, get_or, Some, None, Result, Ok, Err, refl, sym, ◌∙◌, ap, arith, inl, inr}
use native.Mathlib.Numerals.{add-one}
use Rattle.std.proofs.lemmas.Bool.{cases_lt}
use Rattle.std.proofs.lemmas.List.Sorted.{searchable_from_sorted}
use Rattle.mtn_base.specs.Names.{name_cmp}
use Rattle.mtn_base.specs.declared.name.NodeName.{NodeName}
use Rattle.mtn_roster.specs.declared.entry.Entry.{Entry}
use Rattle.mtn_roster.specs.Tree.{Tree, entry_of}
use Rattle.mtn_base.specs.Lists.{rises}
use Rattle.mtn_base.proofs.Members.{taken, place_of}
use Rattle.mtn_roster.proofs.Forest.{name_of, split_of}
use Rattle.mtn_base.proofs.Orders.{names_total, exact_names}
use Rattle.mtn_roster.proofs.Ordered.{distinct_of}

no_lt : (r : Ordering) → is_lt r ≡ true → is_lt (ordering_reverse r) ≡ false
no_lt Less h = refl
no_lt Equal h = refl
no_lt Greater h = absurd cc

module _ {X K : Type 0} (cmp : K → K → Ordering) (key : X → K) (o : IsTotalOrder cmp) where
  next_up : (xs : List X) → rises cmp (map key xs) ≡ true → (k : ℕ) (d : X) → suc k < length xs → is_lt (cmp (key (get_or xs (suc k) d)) (key (get_or xs k d))) ≡ false
  next_up [] h k d lt = absurd (omega (arith, lt))
  next_up (x ∷ []) h k d lt = absurd (omega (arith, lt))
  next_up (x ∷ y ∷ xs) h zero d lt = ap is_lt (o.antisymm (key y) (key x)) ∙ no_lt _ (first_so _ _ (first_so (list_all (λ l. is_lt (cmp (key x) l)) (map key (y ∷ xs))) _ h))
  next_up (x ∷ y ∷ xs) h (suc k) d lt = next_up (y ∷ xs) (second_so (list_all (λ l. is_lt (cmp (key x) l)) (map key (y ∷ xs))) _ h) k d (omega (arith, lt))

  pub sorted_of_rises : (xs : List X) → rises cmp (map key xs) ≡ true → (k : ℕ) (d : X) → k + 1 < length xs → is_lt (cmp (key (get_or xs (k + 1) d)) (key (get_or xs k d))) ≡ false
  sorted_of_rises xs h k d lt = ap (λ n. is_lt (cmp (key (get_or xs n d)) (key (get_or xs k d)))) (add-one k) ∙ next_up xs h k d (omega (arith, lt))

none_of : (t : Tree) (n : NodeName) → ((e : Entry) → entry_of t n ≡ Some e → ⊥) → None ≡ entry_of t n
none_of t n h = elim (entry_of t n) as (λ o. entry_of t n ≡ o → None ≡ o) [ None ↦ λ e. refl | Some x ↦ λ e. absurd (h x e) ] refl

-- what is found by halving is the entry of the name
pub halved : (t : Tree) → rises name_cmp (map (λ e. e.name) t) ≡ true → (n : NodeName) (r : Result ℕ ℕ) →
    IsSearchInRange r (length t) → IsBinarySearchResult (λ e. name_cmp e.name n) t r → option_and_then (slice_get t) (result_ok r) ≡ entry_of t n
halved t h n (Ok i) lt at =
    let r = taken t i lt in
    let e : Entry = r.0 in
    let name : e.name ≡ n = exact_names e.name n (ap (λ (x : Entry). name_cmp x.name n) (sym (r.3 e)) ∙ at e) in
    r.1 ∙ sym (distinct_of t h e r.2) ∙ ap (entry_of t) name
halved t h n (Err i) le at =
    let p = at (searchable_from_sorted names_total (λ (e : Entry). e.name) t n (λ k d a b. sorted_of_rises name_cmp (λ (e : Entry). e.name) names_total t h k d b)) in
    none_of t n (λ e g.
    let q = place_of t e (split_of t n e g) in
    let same : name_cmp e.name n ≡ Equal = ap (λ m. name_cmp m n) (name_of t n e g) ∙ tied_itself names_total n in
    elim (cases_lt q.0 i) [
      | inl lt ↦ absurd (let a = ap (λ (x : Entry). name_cmp x.name n) (sym (q.2 e)) ∙ p.0 q.0 e (omega arith) lt in cc)
      | inr ge ↦ absurd (let a = ap (λ (x : Entry). name_cmp x.name n) (sym (q.2 e)) ∙ p.1 q.0 e ge q.1 in cc)
    ])
