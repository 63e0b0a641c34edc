-- The children of a node stand together in an index.
use Rattle.std.specs.List.{filter}
use Rattle.std.specs.List.Sorted.{IsPartitionedBy, IsPartitionPoint}
use Rattle.std.specs.declared.cmp.Ordering.{Ordering}
use Rattle.std.specs.declared.cmp.Ordering.TheVariants.{Less, Equal, Greater}
use Rattle.std.specs.Ordering.{is_lt, is_le, ordering_then}
use Rattle.std.specs.Cmp.{tied_itself}
use Rattle.std.proofs.Common.{◌≡◌, ℕ, zero, suc, ◌+◌, ◌-◌, ◌<◌, ◌≤◌, Bool, true, false, cond, List, [], ◌∷◌, length, get_or, take, drop, refl, sym, ◌∙◌, ap, subst, arith, inl, inr}
use Rattle.std.proofs.lemmas.Bool.{cases_lt}
use Rattle.std.proofs.lemmas.List.{get_or-drop, length-drop}
use Rattle.mtn_base.specs.Names.{name_cmp, same_name, bytes_cmp}
use Rattle.mtn_base.specs.declared.name.NodeName.{NodeName}
use Rattle.mtn_roster.specs.declared.entry.Slot.{Slot}
use Rattle.mtn_roster.specs.declared.entry.Slot.TheVariants.{Root, Below}
use Rattle.mtn_roster.specs.Tree.{Tree}
use Rattle.mtn_roster.specs.Index.{IsIndex, slot_cmp, slot_in}
use Rattle.mtn_roster.specs.Walk.{is_below, parent_cmp}
use Rattle.mtn_base.proofs.Tests.{same_name-is, same_name-self}
use Rattle.mtn_base.proofs.Orders.{names_total, exact_names}
use Rattle.mtn_base.proofs.Sorting.{less_at}
use Rattle.mtn_roster.proofs.BySlot.{slots_total}

module _ (p : ℕ → Bool) where
  pub filter_none : (xs : List ℕ) → ((k : ℕ) → k < length xs → p (get_or xs k 0) ≡ false) → filter p xs ≡ []
  filter_none [] h = refl
  filter_none (x ∷ xs) h = ap (λ b. cond b (x ∷ filter p xs) (filter p xs)) (h zero (omega arith)) ∙ filter_none xs (λ k l. h (suc k) (omega (arith, l)))

  filter_front : (n : ℕ) (xs : List ℕ) → ((k : ℕ) → k < n → k < length xs → p (get_or xs k 0) ≡ true) → ((k : ℕ) → n ≤ k → k < length xs → p (get_or xs k 0) ≡ false) → filter p xs ≡ take n xs
  filter_front zero xs h g = filter_none xs (λ k l. g k (omega arith) l)
  filter_front (suc n) [] h g = refl
  filter_front (suc n) (x ∷ xs) h g =
      ap (λ b. cond b (x ∷ filter p xs) (filter p xs)) (h zero (omega arith) (omega arith))
      ∙ ap (λ l. x ∷ l) (filter_front n xs (λ k a l. h (suc k) (omega (arith, a)) (omega (arith, l))) (λ k a l. g (suc k) (omega (arith, a)) (omega (arith, l))))

  pub filter_run : (i n : ℕ) (xs : List ℕ) → ((k : ℕ) → k < i → k < length xs → p (get_or xs k 0) ≡ false)
      → ((k : ℕ) → i ≤ k → k < i + n → k < length xs → p (get_or xs k 0) ≡ true) → ((k : ℕ) → i + n ≤ k → k < length xs → p (get_or xs k 0) ≡ false)
      → filter p xs ≡ take n (drop i xs)
  filter_run zero n xs f h g = filter_front n xs (λ k a l. h k (omega arith) (omega (arith, a)) l) (λ k a l. g k (omega (arith, a)) l)
  filter_run (suc i) n [] f h g = filter_front n [] (λ k a l. absurd (omega (arith, l))) (λ k a l. absurd (omega (arith, l)))
  filter_run (suc i) n (x ∷ xs) f h g =
      ap (λ b. cond b (x ∷ filter p xs) (filter p xs)) (f zero (omega arith) (omega arith))
      ∙ filter_run i n xs (λ k a l. f (suc k) (omega (arith, a)) (omega (arith, l))) (λ k a b l. h (suc k) (omega (arith, a)) (omega (arith, b)) (omega (arith, l))) (λ k a l. g (suc k) (omega (arith, a)) (omega (arith, l)))

-- the order of orderings
abbrev IsUpTo : Ordering → Ordering → Type 0
IsUpTo Less s = Unit {0}
IsUpTo Equal Less = ⊥
IsUpTo Equal Equal = Unit {0}
IsUpTo Equal Greater = Unit {0}
IsUpTo Greater Less = ⊥
IsUpTo Greater Equal = ⊥
IsUpTo Greater Greater = Unit {0}

up_to_self : (r : Ordering) → IsUpTo r r
up_to_self Less = tt
up_to_self Equal = tt
up_to_self Greater = tt

up_to_last : (r : Ordering) → IsUpTo r Greater
up_to_last Less = tt
up_to_last Equal = tt
up_to_last Greater = tt

up_to_lt : (r s : Ordering) → IsUpTo r s → is_lt s ≡ true → is_lt r ≡ true
up_to_lt Less s u h = refl
up_to_lt Equal Less u h = absurd u
up_to_lt Equal Equal u h = absurd cc
up_to_lt Equal Greater u h = absurd cc
up_to_lt Greater Less u h = absurd u
up_to_lt Greater Equal u h = absurd cc
up_to_lt Greater Greater u h = absurd cc

up_to_le : (r s : Ordering) → IsUpTo r s → is_le s ≡ true → is_le r ≡ true
up_to_le Less s u h = refl
up_to_le Equal s u h = refl
up_to_le Greater Less u h = absurd u
up_to_le Greater Equal u h = absurd u
up_to_le Greater Greater u h = absurd cc

rising_parents : (s r : Slot) (n : NodeName) → slot_cmp s r ≡ Less → IsUpTo (parent_cmp s n) (parent_cmp r n)
rising_parents Root r n h = tt
rising_parents (Below p a) Root n h = absurd cc
rising_parents (Below p a) (Below q b) n h =
    elim (name_cmp p q) as (λ o. name_cmp p q ≡ o → ordering_then o (bytes_cmp a b) ≡ Less → IsUpTo (name_cmp p n) (name_cmp q n)) [
      | Less ↦ λ e g. elim (name_cmp q n) as (λ o. name_cmp q n ≡ o → IsUpTo (name_cmp p n) o) [
        | Less ↦ λ f. let l : Less ≡ name_cmp p n = sym (names_total.trans p q n e f) in subst (λ o. IsUpTo o Less) l tt
        | Equal ↦ λ f. let l : Less ≡ name_cmp p n = sym e ∙ ap (name_cmp p) (exact_names q n f) in subst (λ o. IsUpTo o Equal) l tt
        | Greater ↦ λ f. up_to_last (name_cmp p n)
      ] refl
      | Equal ↦ λ e g. subst (λ m. IsUpTo (name_cmp p n) (name_cmp m n)) (exact_names p q e) (up_to_self (name_cmp p n))
      | Greater ↦ λ e g. absurd cc
    ] refl h

below_tells : (s : Slot) (n : NodeName) → is_lt (parent_cmp s n) ≡ false → is_le (parent_cmp s n) ≡ true → is_below n s ≡ true
below_tells Root n h g = absurd cc
below_tells (Below p a) n h g =
    elim (name_cmp p n) as (λ o. name_cmp p n ≡ o → is_lt o ≡ false → is_le o ≡ true → same_name p n ≡ true) [
      | Less ↦ λ e h g. absurd cc
      | Equal ↦ λ e h g. ap (same_name p) (sym (exact_names p n e)) ∙ same_name-self p
      | Greater ↦ λ e h g. absurd cc
    ] refl h g

not_below : (s : Slot) (n : NodeName) → (name_cmp n n ≡ parent_cmp s n → ⊥) → is_below n s ≡ false
not_below Root n h = refl
not_below (Below p a) n h =
    elim (same_name p n) as (λ b. same_name p n ≡ b → b ≡ false) [
      | true ↦ λ e. absurd (h (ap (λ m. name_cmp m n) (sym (same_name-is p n e))))
      | false ↦ λ e. refl
    ] refl

before_tells : (s : Slot) (n : NodeName) → is_lt (parent_cmp s n) ≡ true → is_below n s ≡ false
before_tells s n h = not_below s n (λ e. let q = tied_itself names_total n in let z = ap is_lt (sym e ∙ q) in cc)

after_tells : (s : Slot) (n : NodeName) → is_le (parent_cmp s n) ≡ false → is_below n s ≡ false
after_tells s n h = not_below s n (λ e. let q = tied_itself names_total n in let z = ap is_le (sym e ∙ q) in cc)

module _ (t : Tree) (ks : List ℕ) (index : IsIndex t ks) (n : NodeName) where
  parents : (i j d : ℕ) → i ≤ j → j < length ks → IsUpTo (parent_cmp (slot_in t (get_or ks i d)) n) (parent_cmp (slot_in t (get_or ks j d)) n)
  parents i j d le low = elim (cases_lt i j) [
    | inl lt ↦ rising_parents (slot_in t (get_or ks i d)) (slot_in t (get_or ks j d)) n (less_at slot_cmp (slot_in t) slots_total ks i j d index.rising lt low)
    | inr ge ↦ let e : i ≡ j = omega arith in subst (λ k. IsUpTo (parent_cmp (slot_in t (get_or ks i d)) n) (parent_cmp (slot_in t (get_or ks k d)) n)) e (up_to_self (parent_cmp (slot_in t (get_or ks i d)) n))
  ]

  abbrev pub is_before : ℕ → Bool
  is_before k = is_lt (parent_cmp (slot_in t k) n)

  abbrev pub is_within : ℕ → Bool
  is_within k = is_le (parent_cmp (slot_in t k) n)

  pub before_partitioned : IsPartitionedBy is_before ks
  before_partitioned i j d le low h = up_to_lt (parent_cmp (slot_in t (get_or ks i d)) n) (parent_cmp (slot_in t (get_or ks j d)) n) (parents i j d le low) h

  pub within_partitioned : (first : ℕ) → IsPartitionedBy is_within (drop first ks)
  within_partitioned first i j d le low h =
      let bound : first + j < length ks = omega (arith, low, length-drop first ks) in
      let a : get_or (drop first ks) i d ≡ get_or ks (first + i) d = get_or-drop first ks i d in
      let b : get_or (drop first ks) j d ≡ get_or ks (first + j) d = get_or-drop first ks j d in
      ap is_within a ∙ up_to_le (parent_cmp (slot_in t (get_or ks (first + i) d)) n) (parent_cmp (slot_in t (get_or ks (first + j) d)) n) (parents (first + i) (first + j) d (omega (arith, le)) bound) (ap is_within (sym b) ∙ h)

  pub run_is : (i c : ℕ) → ((k : ℕ) → k < i → k < length ks → is_before (get_or ks k 0) ≡ true) → ((k : ℕ) → i ≤ k → k < length ks → is_before (get_or ks k 0) ≡ false)
      → ((k : ℕ) → i ≤ k → k < i + c → k < length ks → is_within (get_or ks k 0) ≡ true) → ((k : ℕ) → i + c ≤ k → k < length ks → is_within (get_or ks k 0) ≡ false)
      → filter (λ k. is_below n (slot_in t k)) ks ≡ take c (drop i ks)
  run_is i c a b d e = filter_run (λ k. is_below n (slot_in t k)) i c ks
      (λ k l low. before_tells (slot_in t (get_or ks k 0)) n (a k l low))
      (λ k g l low. below_tells (slot_in t (get_or ks k 0)) n (b k g low) (d k g l low))
      (λ k g low. after_tells (slot_in t (get_or ks k 0)) n (e k g low))

  -- what the two searches leave
  pub run_found : (first count : ℕ) → first ≤ length ks → IsPartitionPoint (λ y. is_before y ≡ true) (λ y. is_before y ≡ false) ks first
      → (rest : List ℕ) → rest ≡ drop first ks → IsPartitionPoint (λ y. is_within y ≡ true) (λ y. is_within y ≡ false) rest count
      → take count rest ≡ filter (λ k. is_below n (slot_in t k)) ks
  run_found first count le a rest is b =
      let long : length rest ≡ length ks - first = ap length is ∙ length-drop first ks in
      let at : (k : ℕ) → first ≤ k → get_or rest (k - first) 0 ≡ get_or ks k 0 = λ k g. let e : first + (k - first) ≡ k = omega arith in ap (λ l. get_or l (k - first) 0) is ∙ get_or-drop first ks (k - first) 0 ∙ ap (λ m. get_or ks m 0) e in
      ap (take count) is ∙ sym (run_is first count
      (λ k l low. a.0 k 0 (omega arith) l)
      (λ k g low. a.1 k 0 g low)
      (λ k g l low. ap is_within (sym (at k g)) ∙ b.0 (k - first) 0 (omega arith) (omega (arith, l, g)))
      (λ k g low. let up : first ≤ k = omega (arith, g) in ap is_within (sym (at k up)) ∙ b.1 (k - first) 0 (omega (arith, g)) (omega (arith, long, low, g))))
