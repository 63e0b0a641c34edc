-- What a table of ids tells.
use Rattle.std.specs.Prelude.{Contains, find, filter_map, map, option_map, option_and_then, slice_get}
use Rattle.std.specs.Cmp.{first_so, second_so}
use Rattle.std.specs.FinMap.{nat_cmp-IsAntisymmetric}
use Rattle.std.specs.List.{AllZip, cons_option, list_all}
use Rattle.std.specs.List.Sorted.{IsBinarySearchResult, IsSearchInRange, IsStrictlyIncreasing}
use Rattle.std.specs.Ordering.{is_lt, nat_cmp}
use Rattle.std.specs.Result.{result_ok}
use Rattle.std.proofs.Common.{◌≡◌, ℕ, ◌+◌, ◌<◌, true, false, cond, List, [], ◌∷◌, ◌++◌, length, get_or, take, Some, Result, eqb, refl, sym, ap, ◌∙◌, subst, ⊎_elim}
use Rattle.std.proofs.lemmas.Bool.{eqb-true, eq-eqb}
use Rattle.std.proofs.lemmas.Cmp.{nat_cmp_total}
use Rattle.std.proofs.lemmas.List.{take_more}
use Rattle.std.proofs.lemmas.List.Elements.{filter_map-append}
use Rattle.std.proofs.lemmas.Map.Keys.{sorted_from_strictly_increasing}
use Rattle.mtn_base.specs.Names.{bytes_cmp, same_bytes}
use Rattle.mtn_base.specs.declared.id.Id.{Id}
use Rattle.mtn_base.proofs.IdOrder.{contains_nil, contains_cases}
use Rattle.mtn_marking.specs.declared.node.AttrMarks.{AttrMarks}
use Rattle.mtn_marking.proofs.Keyed.{halved}
use Rattle.mtn_marking.proofs.Telling.{key_in}
use Rattle.mtn_base.specs.Lists.{rises}
use Rattle.mtn_base.proofs.Orders.{bytes_total, exact_bytes}
use Rattle.mtn_base.proofs.Sorting.{rises_of_sorted}
use Rattle.mtn_base.proofs.Tests.{both_true, same_bytes-is, same_bytes-self}
use Rattle.mtn_roster_text.specs.Naming.{table_of, id_at}
use Rattle.mtn_roster_text.specs.declared.table.Named.{Named}

abbrev pub place_in : Named → ℕ
place_in n = n.at

pub halved_places : (table : List Named) → rises nat_cmp (map place_in table) ≡ true → (at : ℕ) (r : Result ℕ ℕ) → IsSearchInRange r (length table) → IsBinarySearchResult (λ n. nat_cmp (place_in n) at) table r →
    option_and_then (slice_get table) (result_ok r) ≡ find (λ (n : Named). eqb n.at at) table
halved_places = halved nat_cmp place_in eqb nat_cmp_total eqb-true (λ a. eq-eqb a a refl) nat_cmp-IsAntisymmetric

pub halved_keys : (attrs : List AttrMarks) → rises bytes_cmp (map key_in attrs) ≡ true → (k : List ℕ) (r : Result ℕ ℕ) → IsSearchInRange r (length attrs) → IsBinarySearchResult (λ a. bytes_cmp (key_in a) k) attrs r →
    option_and_then (slice_get attrs) (result_ok r) ≡ find (λ (a : AttrMarks). same_bytes a.key k) attrs
halved_keys = halved bytes_cmp key_in same_bytes bytes_total same_bytes-is same_bytes-self exact_bytes

-- the positions of a table ascend
below_all : (p : ℕ) (ps : List ℕ) (ids : List Id) → list_all (λ l. is_lt (nat_cmp p l)) ps ≡ true → list_all (λ l. is_lt (nat_cmp p l)) (map place_in (table_of ps ids)) ≡ true
below_all p [] ids h = refl
below_all p (q ∷ ps) [] h = refl
below_all p (q ∷ ps) (i ∷ ids) h = both_true _ _ (first_so _ _ h) (below_all p ps ids (second_so (is_lt (nat_cmp p q)) _ h))

rising_table : (ps : List ℕ) (ids : List Id) → rises nat_cmp ps ≡ true → rises nat_cmp (map place_in (table_of ps ids)) ≡ true
rising_table [] ids h = refl
rising_table (p ∷ ps) [] h = refl
rising_table (p ∷ ps) (i ∷ ids) h = both_true _ _ (below_all p ps ids (first_so _ _ h)) (rising_table ps ids (second_so (list_all (λ l. is_lt (nat_cmp p l)) ps) _ h))

pub table_rises : (ps : List ℕ) (ids : List Id) (table : List Named) → table ≡ table_of ps ids → IsStrictlyIncreasing ps → rises nat_cmp (map place_in table) ≡ true
table_rises ps ids table is up = subst (λ (l : List Named). rises nat_cmp (map place_in l) ≡ true) (sym is) (rising_table ps ids (rises_of_sorted nat_cmp ps (sorted_from_strictly_increasing ps up)))

-- one more position
pub ids_more : (table : List Named) (marks : List ℕ) (i at : ℕ) (now new : List Id) → i < length marks → at ≡ get_or marks i at → now ≡ filter_map (id_at table) (take i marks) → new ≡ now ++ cons_option (id_at table at) [] →
    new ≡ filter_map (id_at table) (take (i + 1) marks)
ids_more table marks i at now new low is was more =
    more ∙ ap (λ l. l ++ cons_option (id_at table at) []) was ∙ sym (filter_map-append (id_at table) (take i marks) (at ∷ []))
    ∙ ap (λ z. filter_map (id_at table) (take i marks ++ z ∷ [])) is ∙ ap (filter_map (id_at table)) (sym (take_more marks i at low))

-- what holds of each position and the id beside it
module _ (P : ℕ → Id → Type 0) where
  pub named_so : (places : List ℕ) (ids : List Id) → AllZip P places ids → (m : ℕ) (x : Id) → id_at (table_of places ids) m ≡ Some x → P m x
  named_so [] ids zip m x is = absurd cc
  named_so (p ∷ places) [] zip m x is = absurd zip
  named_so (p ∷ places) (i ∷ ids) zip m x is =
      elim (eqb p m) as (λ b. eqb p m ≡ b → option_map (λ (n : Named). n.id) (cond b (Some (record { at = p; id = i })) (find (λ (n : Named). eqb n.at m) (table_of places ids))) ≡ Some x → P m x) [
        | true ↦ λ e g. let same : i ≡ x = cc in subst (λ z. P z x) (eqb-true p m e) (subst (P p) same zip.0)
        | false ↦ λ e g. named_so places ids zip.1 m x g
      ] refl is

  -- each position has an id
  pub named : (places : List ℕ) (ids : List Id) → AllZip P places ids → (m : ℕ) → Contains places m → (x : Id) × (id_at (table_of places ids) m ≡ Some x)
  named [] ids zip m c = absurd (contains_nil c)
  named (p ∷ places) [] zip m c = absurd zip
  named (p ∷ places) (i ∷ ids) zip m c =
      elim (eqb p m) as (λ b. eqb p m ≡ b → (x : Id) × (option_map (λ (n : Named). n.id) (cond b (Some (record { at = p; id = i })) (find (λ (n : Named). eqb n.at m) (table_of places ids))) ≡ Some x)) [
        | true ↦ λ e. (i, refl)
        | false ↦ λ e. ⊎_elim (λ d. absurd (let t = eq-eqb p m d in cc)) (λ d. named places ids zip.1 m d) (contains_cases p places m c)
      ] refl
