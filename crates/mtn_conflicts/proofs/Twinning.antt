-- In the order of slots nodes with one decided slot stand side by side.
use Rattle.std.specs.Prelude.{◌↔◌, map, slice_get}
use Rattle.std.specs.declared.cmp.Ordering.{Ordering}
use Rattle.std.specs.declared.cmp.Ordering.TheVariants.{Less, Equal, Greater}
use Rattle.std.specs.Ordering.{ordering_reverse, is_lt, is_eq}
use Rattle.std.specs.Cmp.{IsTotalOrder, tied_itself}
use Rattle.std.specs.List.Sorted.{IsPermutation, IsSortedBy}
use Rattle.std.proofs.lemmas.List.Sorted.{All-permutation, Contains-permutation, ranks_by, sorted_far}
use Rattle.std.proofs.lemmas.List.Elements.{All-get_or, All-from_get_or}
use Rattle.std.proofs.lemmas.Map.Keys.{apart_from_distinct, IsDistinct-from_apart, IsDistinct-IsPermutation}
use Rattle.std.proofs.lemmas.Cmp.{nat_eq_equiv}
use Rattle.std.proofs.lemmas.Bool.Decides.{nat_tests}
use Rattle.std.proofs.Common.{◌≡◌, ◌≢◌, ℕ, suc, ◌+◌, ◌-◌, ◌<◌, ◌≤◌, true, false, Bool, List, nat_eq, length, get_or, Some, ◌⊎◌, inl, inr, ⊎_elim, refl, sym, ◌∙◌, ap, subst, arith}
use Rattle.std.proofs.Math.Decide.{ℕ_discrete}
use Rattle.std.proofs.lemmas.Bool.{cases_lt}
use Rattle.mtn_base.specs.Names.{name_cmp}
use Rattle.mtn_base.specs.declared.name.NodeName.{NodeName}
use Rattle.mtn_marking.proofs.Zips.{got_at}
use Rattle.mtn_roster.specs.Index.{slot_cmp}
use Rattle.mtn_base.specs.Lists.{rises}
use Rattle.mtn_roster.specs.declared.entry.Slot.{Slot}
use Rattle.mtn_roster.proofs.BySlot.{slots_total, exact_slots}
use Rattle.mtn_base.proofs.Members.{taken, any_default, place_of}
use Rattle.mtn_base.proofs.Tests.{told}
use Rattle.mtn_decide.specs.declared.decision.Decision.{Decision}
use Rattle.mtn_decide.specs.declared.decision.SlotChoice.{SlotChoice}
use Rattle.mtn_decide.specs.declared.decision.SlotChoice.TheVariants.{Fixed, Clash}
use Rattle.mtn_decide.specs.Decisions.{decision_of}
use Rattle.mtn_conflicts.specs.Parts.{choice_cmp, AreSameSlots, AreTwins, IsBySlot, choice_at, choice_of_node, AreFlags, IsMarked, IsRaised}
use Rattle.mtn_conflicts.specs.Slots.{IsDuplicate}
use Rattle.mtn_conflicts.proofs.Chains.{one_place, flags_from}
use Rattle.mtn_conflicts.proofs.Nodes.{name_of, found_at, found_name, distinct}

both_upto : (a b : Ordering) → a ≡ ordering_reverse b → a ≢ Greater → b ≢ Greater → a ≡ Equal
both_upto Less Less e p q = absurd cc
both_upto Less Equal e p q = absurd cc
both_upto Less Greater e p q = absurd (q refl)
both_upto Equal b e p q = refl
both_upto Greater b e p q = absurd (p refl)

-- what stands between two of one slot has it
squeezed : (s : Slot) (c : SlotChoice) → choice_cmp (Fixed s) c ≢ Greater → choice_cmp c (Fixed s) ≢ Greater → c ≡ Fixed s
squeezed s (Fixed t) p q = ap Fixed (sym (exact_slots s t (both_upto (slot_cmp s t) (slot_cmp t s) (slots_total.antisymm s t) p q)))
squeezed s (Clash l r) p q = absurd (p refl)

-- the node at place k has a twin beside it, among the first so many positions
abbrev pub IsBeside : List Decision → List ℕ → ℕ → ℕ → Type 0
IsBeside ds ks k done = (a : ℕ) × (suc a < done) × AreTwins ds (get_or ks a 0) (get_or ks (suc a) 0) × ((k ≡ get_or ks a 0) ⊎ (k ≡ get_or ks (suc a) 0))

abbrev pub AreTwinnedIn : List Decision → List ℕ → ℕ → List Bool → Type 0
AreTwinnedIn ds ks done fs = (length fs ≡ length ds) × ((k : ℕ) → k < length ds → (get_or fs k false ≡ true) ↔ IsBeside ds ks k done)

module _ (ds : List Decision) (rising : rises name_cmp (map name_of ds) ≡ true) (ks : List ℕ) (by : IsBySlot ds ks) where
  abbrev at : ℕ → ℕ
  at a = get_or ks a 0

  -- the node at a place
  node_at : (k : ℕ) → k < length ds → (d : Decision) × (slice_get ds k ≡ Some d)
  node_at k lt = let t = taken ds k lt in (t.0, t.1)

  choice_is : (k : ℕ) (d : Decision) → slice_get ds k ≡ Some d → choice_at ds k ≡ d.slot
  choice_is k d h = ap (λ o. choice_of_node o) h

  own_name : (k : ℕ) (d : Decision) → slice_get ds k ≡ Some d → decision_of ds d.name ≡ Some d
  own_name k d h =
      let t = taken ds k (got_at ds k d h).0 in
      let g : t.0 ≡ d = (let f = t.1 in cc) in
      subst (λ x. decision_of ds x.name ≡ Some x) g (distinct ds rising t.0 t.2)

  -- twins side by side are duplicates
  pub twin_duplicate : (i j : ℕ) → i ≢ j → AreTwins ds i j → (d : Decision) → slice_get ds i ≡ Some d → IsDuplicate ds d
  twin_duplicate i j ne t d h =
      let same : t.0 ≡ d = (let g = t.3 in cc) in
      let e = t.1 in (
        t.2,
        e.name,
        e,
        ap (λ (x : Decision). x.slot) (sym same) ∙ t.5,
        own_name j e t.4,
        (λ g.
            let x : decision_of ds d.name ≡ Some e = subst (λ n. decision_of ds n ≡ Some e) g (own_name j e t.4) in
            let y = own_name i d h in
            let one : e ≡ d = cc in
            ne (one_place ds rising i j d h (t.4 ∙ ap Some one))),
        t.6,
      )

  -- the slots from a position to a later one of the same slot
  between : (a b c : ℕ) (s : Slot) → a ≤ b → b ≤ c → c < length ks → choice_at ds (at a) ≡ Fixed s → choice_at ds (at c) ≡ Fixed s → choice_at ds (at b) ≡ Fixed s
  between a b c s ab bc lt ea ec =
      elim (ℕ_discrete a b) [
        | yes e ↦ ap (λ x. choice_at ds (at x)) (sym e) ∙ ea
        | no n ↦ elim (ℕ_discrete b c) [
          | yes e ↦ ap (λ x. choice_at ds (at x)) e ∙ ec
          | no m ↦ squeezed s (choice_at ds (at b))
              (subst (λ x. choice_cmp x (choice_at ds (at b)) ≢ Greater) ea (by.sorted a b (omega (arith, ab, n)) (omega (arith, bc, lt))))
              (subst (λ x. choice_cmp (choice_at ds (at b)) x ≢ Greater) ec (by.sorted b c (omega (arith, bc, m)) lt))
        ]
      ]

  place : (n : NodeName) (e : Decision) → decision_of ds n ≡ Some e → (j : ℕ) × (slice_get ds j ≡ Some e)
  place n e h =
      let p = place_of ds e (found_at ds n e h) in
      let t = taken ds p.0 p.1 in
      (p.0, t.1 ∙ ap Some (sym (t.3 e) ∙ p.2 e))

  twins_at : (a : ℕ) (s : Slot) → suc a < length ks → choice_at ds (at a) ≡ Fixed s → choice_at ds (at (suc a)) ≡ Fixed s → AreTwins ds (at a) (at (suc a))
  twins_at a s lt x y =
      let d = node_at (at a) (by.within a (omega (arith, lt))) in
      let e = node_at (at (suc a)) (by.within (suc a) lt) in
      (d.0, e.0, s, d.1, e.1, sym (choice_is (at a) d.0 d.1) ∙ x, sym (choice_is (at (suc a)) e.0 e.1) ∙ y)

  abbrev Beside : ℕ → ℕ → Type 0
  Beside k done = IsBeside ds ks k done

  -- a duplicate has one of its twins beside it
  beside : (k : ℕ) (d : Decision) → slice_get ds k ≡ Some d → IsDuplicate ds d → Beside k (length ks)
  beside k d h t =
      let j = place t.1 t.2 t.4 in
      let p = by.there k (got_at ds k d h).0 in
      let q = by.there j.0 (got_at ds j.0 t.2 j.1).0 in
      let ck : choice_at ds (at p.0) ≡ Fixed t.0 = ap (choice_at ds) p.2 ∙ choice_is k d h ∙ t.3 in
      let cj : choice_at ds (at q.0) ≡ Fixed t.0 = ap (choice_at ds) q.2 ∙ choice_is j.0 t.2 j.1 ∙ t.6 in
      elim (cases_lt p.0 q.0) [
        | inl low ↦
            let n : suc p.0 < length ks = omega (arith, low, q.1) in
            (p.0, n, twins_at p.0 t.0 n ck (between p.0 (suc p.0) q.0 t.0 (omega arith) low q.1 ck cj), inl (sym p.2))
        | inr high ↦ elim (ℕ_discrete q.0 p.0) [
          | yes e ↦ absurd (
              let same : j.0 ≡ k = sym q.2 ∙ ap at e ∙ p.2 in
              let x : slice_get ds k ≡ Some t.2 = ap (slice_get ds) (sym same) ∙ j.1 in
              let y : d ≡ t.2 = cc in
              t.5 (sym (found_name ds t.1 t.2 t.4) ∙ ap name_of (sym y)))
          | no ne ↦
              let a = p.0 - 1 in
              let sa : suc a ≡ p.0 = back p.0 q.0 high ne in
              let n : suc a < length ks = omega (arith, sa, p.1) in
              let c : choice_at ds (at (suc a)) ≡ Fixed t.0 = ap (λ x. choice_at ds (at x)) sa ∙ ck in
              (a, n, twins_at a t.0 n (between q.0 a (suc a) t.0 (omega (arith, sa, high, ne)) (omega arith) n cj c) c, inr (sym p.2 ∙ ap at (sym sa)))
        ]
      ]
    where
      back : (p q : ℕ) → q ≤ p → q ≢ p → suc (p - 1) ≡ p
      back p q h ne = omega (arith, h, ne)

  -- the flags of the nodes that have a twin beside them, among the first so many
  abbrev pub AreTwinned : ℕ → List Bool → Type 0
  AreTwinned done fs = AreTwinnedIn ds ks done fs

  pub twinned_none : (fs : List Bool) → length fs ≡ length ds → ((k : ℕ) → get_or fs k false ≡ false) → AreTwinned 1 fs
  twinned_none fs e h = (e, λ k lt. (λ t. absurd (let x = h k in cc), λ t. absurd (omega (arith, t.1))))

  pub twinned_more : (done : ℕ) (fs gs : List Bool) → 1 ≤ done → AreTwinned done fs → IsMarked ds (at (done - 1)) (at done) fs gs → AreTwinned (done + 1) gs
  twinned_more done fs gs some h r = (
    r.0 ∙ h.0,
    λ k lt.
        let lf : k < length fs = omega (arith, lt, h.0) in
        let sd : suc (done - 1) ≡ done = omega (arith, some) in (
          λ t. ⊎_elim
              (λ a. let b = (h.1 k lt).0 a in (b.0, omega (arith, b.1), b.2, b.3))
              (λ b. (done - 1, omega (arith, sd), subst (λ z. AreTwins ds (at (done - 1)) (at z)) (sym sd) b.0, subst (λ z. (k ≡ at (done - 1)) ⊎ (k ≡ at z)) (sym sd) b.1))
              ((r.1 k lf).0 t),
          λ t. (r.1 k lf).1 (elim (cases_lt (suc t.0) done) [
            | inl low ↦ inl ((h.1 k lt).1 (t.0, low, t.2, t.3))
            | inr high ↦
                let e : suc t.0 ≡ done = omega (arith, t.1, high) in
                let f : t.0 ≡ done - 1 = omega (arith, e) in
                inr (subst (λ x. AreTwins ds (at x) (at done)) f (subst (λ y. AreTwins ds (at t.0) (at y)) e t.2), subst (λ x. (k ≡ at x) ⊎ (k ≡ at done)) f (subst (λ y. (k ≡ at t.0) ⊎ (k ≡ at y)) e t.3))
          ]),
        ),
  )

  pub twins_flagged : (done : ℕ) (fs : List Bool) → (done ≡ length ks) ⊎ (length ks ≡ 0) → AreTwinned done fs → AreFlags (IsDuplicate ds) ds fs
  twins_flagged done fs all r = flags_from (IsDuplicate ds) ds fs r.0 (λ k d at_k.
      let lt = (got_at ds k d at_k).0 in (
        λ t.
            let b = (r.1 k lt).0 t in
            let bound : suc b.0 < length ks = bounded b.0 b.1 all lt in
            ⊎_elim
            (λ e. twin_duplicate (at b.0) (at (suc b.0)) (by.apart b.0 (suc b.0) (omega arith) bound) b.2 d (ap (slice_get ds) (sym e) ∙ at_k))
            (λ e. twin_duplicate (at (suc b.0)) (at b.0) (λ g. by.apart b.0 (suc b.0) (omega arith) bound (sym g)) (turned (at b.0) (at (suc b.0)) b.2) d (ap (slice_get ds) (sym e) ∙ at_k))
            b.3,
        λ p. let b = beside k d at_k p in (r.1 k lt).1 (b.0, ⊎_elim (λ e. omega (arith, e, b.1)) (λ z. omega (arith, z, b.1)) all, b.2, b.3),
      ))
    where
      turned : (i j : ℕ) → AreTwins ds i j → AreTwins ds j i
      turned i j t = (t.1, t.0, t.2, t.4, t.3, t.6, t.5)

      bounded : {k : ℕ} (b : ℕ) → suc b < done → (done ≡ length ks) ⊎ (length ks ≡ 0) → k < length ds → suc b < length ks
      bounded {k} b h (inl e) lt = omega (arith, h, e)
      bounded {k} b h (inr z) lt = let p = by.there k lt in absurd (omega (arith, p.1, z))

-- two raised flags, or none
pub marked_two : (ds : List Decision) (i j : ℕ) (fs gs hs : List Bool) → AreTwins ds i j → IsRaised fs i gs → IsRaised gs j hs → IsMarked ds i j fs hs
marked_two ds i j fs gs hs t r q = (
  q.0 ∙ r.0,
  λ k lt.
      let lg : k < length gs = omega (arith, lt, r.0) in (
        λ h. ⊎_elim (λ a. ⊎_elim (λ b. inl b) (λ b. inr (t, inl b)) ((r.1 k lt).0 a)) (λ b. inr (t, inr b)) ((q.1 k lg).0 h),
        λ h. (q.1 k lg).1 (⊎_elim (λ a. inl ((r.1 k lt).1 (inl a))) (λ b. ⊎_elim (λ c. inl ((r.1 k lt).1 (inr c))) (λ c. inr c) b.1) h),
      ),
)

pub marked_none : (ds : List Decision) (i j : ℕ) (fs gs : List Bool) → ¬ AreTwins ds i j → gs ≡ fs → IsMarked ds i j fs gs
marked_none ds i j fs gs no_twins e = subst (λ l. IsMarked ds i j fs l) (sym e) (refl, λ k lt. (λ h. inl h, λ h. ⊎_elim (λ a. a) (λ b. absurd (no_twins b.0)) h))

-- the order of decided slots
anti : (c d : SlotChoice) → choice_cmp c d ≡ ordering_reverse (choice_cmp d c)
anti (Fixed s) (Fixed t) = slots_total.antisymm s t
anti (Fixed s) (Clash l r) = refl
anti (Clash l r) (Fixed t) = refl
anti (Clash l r) (Clash x y) = refl

chain : (x y z : SlotChoice) → choice_cmp x y ≡ Less → choice_cmp y z ≡ Less → choice_cmp x z ≡ Less
chain (Fixed s) (Fixed t) (Fixed u) h g = slots_total.trans s t u h g
chain (Fixed s) (Fixed t) (Clash l r) h g = absurd cc
chain (Fixed s) (Clash l r) z h g = absurd cc
chain (Clash l r) (Fixed t) (Fixed u) h g = refl
chain (Clash l r) (Fixed t) (Clash x y) h g = absurd cc
chain (Clash l r) (Clash x y) z h g = absurd cc

tie : (x y z : SlotChoice) → choice_cmp x y ≡ Equal → choice_cmp x z ≡ choice_cmp y z
tie (Fixed s) (Fixed t) (Fixed u) h = slots_total.congr s t u h
tie (Fixed s) (Fixed t) (Clash l r) h = refl
tie (Fixed s) (Clash l r) z h = absurd cc
tie (Clash l r) (Fixed t) z h = absurd cc
tie (Clash l r) (Clash x y) (Fixed u) h = refl
tie (Clash l r) (Clash x y) (Clash v w) h = refl

pub choices_total : IsTotalOrder choice_cmp
choices_total = record { antisymm = anti; trans = chain; congr = tie }

not_greater : (a b : Ordering) → a ≡ ordering_reverse b → is_lt b ≡ false → a ≢ Greater
not_greater a Less e h = absurd cc
not_greater a Equal e h = λ g. let x = e in cc
not_greater a Greater e h = λ g. let x = e in cc

abbrev pub lower : List Decision → ℕ → ℕ → Bool
lower ds x y = is_lt (choice_cmp (choice_at ds x) (choice_at ds y))

-- places that are sorted by slot
pub ordered_places : (ds : List Decision) (ps ks : List ℕ) → length ps ≡ length ds → ((k : ℕ) → k < length ds → get_or ps k 0 ≡ k) → IsPermutation ps ks → IsSortedBy (lower ds) ks → IsBySlot ds ks
ordered_places ds ps ks long own moved sorted = record {
  within = λ a lt. All-get_or (λ k. k < length ds) ks a 0 lt (All-permutation (λ k. k < length ds) ps ks moved (All-from_get_or (λ k. k < length ds) ps 0 (λ i lp.
      let low : i < length ds = omega (arith, lp, long) in subst (λ k. k < length ds) (sym (own i low)) low)));
  there = λ k lt.
      let lp : k < length ps = omega (arith, lt, long) in
      let c = Contains-permutation ps ks k moved (k, lp, any_default ps k k 0 lp ∙ own k lt) in
      (c.0, c.1, any_default ks c.0 0 k c.1 ∙ c.2);
  apart = λ a b lt low e.
      let d = IsDistinct-IsPermutation nat_eq nat_eq_equiv.symm ps ks moved (IsDistinct-from_apart nat_eq ps (λ i j x ij lj.
      let li : i < length ds = omega (arith, ij, lj, long) in
      let lj' : j < length ds = omega (arith, lj, long) in
      let ei : get_or ps i x ≡ i = any_default ps i x 0 (omega (arith, ij, lj)) ∙ own i li in
      let ej : get_or ps j x ≡ j = any_default ps j x 0 lj ∙ own j lj' in
      (λ q. nat_eq (ei q) (ej q)) ∙ apart_nat i j ij)) in
      let f = apart_from_distinct nat_eq ks a b 0 d lt low in
      let g : nat_eq (get_or ks a 0) (get_or ks b 0) ≡ true = ap (nat_eq (get_or ks a 0)) (sym e) ∙ nat_eq_equiv.refl (get_or ks a 0) in
      cc;
  sorted = λ a b lt low. not_greater (choice_cmp (choice_at ds (get_or ks a 0)) (choice_at ds (get_or ks b 0))) (choice_cmp (choice_at ds (get_or ks b 0)) (choice_at ds (get_or ks a 0)))
      (anti (choice_at ds (get_or ks a 0)) (choice_at ds (get_or ks b 0)))
      (sorted_far (lower ds) (ranks_by choices_total (choice_at ds)) ks sorted a b 0 (omega (arith, lt)) low);
}
  where
    apart_nat : (i j : ℕ) → i < j → nat_eq i j ≡ false
    apart_nat i j lt = elim (told (nat_eq i j)) [ inl e ↦ absurd (let x = eq_of i j e in omega (arith, lt, x)) | inr e ↦ e ]
      where
        eq_of : (i j : ℕ) → nat_eq i j ≡ true → i ≡ j
        eq_of i j e = grind (arith, nat_tests)

pub same_slots : (first second : SlotChoice) (s t : Slot) (o : Ordering) (r : Bool) → first ≡ Fixed s → second ≡ Fixed t → o ≡ slot_cmp s t → r ≡ is_eq o → (r ≡ true) ↔ AreSameSlots first second
same_slots first second s t o r f g e h = (
  λ x. let eq : o ≡ Equal = equal o (sym h ∙ x) in let st = exact_slots s t (sym e ∙ eq) in (s, f, g ∙ ap Fixed (sym st)),
  λ u.
      let a : s ≡ u.0 = (let p = u.1 in cc) in
      let b : t ≡ u.0 = (let p = u.2 in cc) in
      h ∙ ap is_eq (e ∙ ap (slot_cmp s) (b ∙ sym a) ∙ tied_itself slots_total s),
)
  where
    equal : (o : Ordering) → is_eq o ≡ true → o ≡ Equal
    equal Less h = absurd cc
    equal Equal h = refl
    equal Greater h = absurd cc
