-- The places of a tree's entries, sorted by slot.
use Rattle.std.specs.Prelude.{◌↔◌, IsTrue}
use Rattle.std.specs.List.{All, Contains, IsDistinct}
use Rattle.std.specs.List.Sorted.{IsPermutation}
use Rattle.std.proofs.Common.{◌≡◌, ℕ, ◌<◌, Bool, List, length, get_or, sym, ◌∙◌, ap, subst, arith}
use Rattle.std.proofs.lemmas.List.Sorted.{All-permutation, Contains-permutation}
use Rattle.std.proofs.lemmas.List.Elements.{All-from_get_or, Contains-get_or}
use Rattle.std.proofs.lemmas.Map.Keys.{apart_from_distinct, IsDistinct-from_apart}
use Rattle.mtn_roster.specs.declared.entry.Entry.{Entry}
use Rattle.mtn_roster.specs.Tree.{Tree, same_slot}
use Rattle.mtn_roster.specs.Index.{ArePlaces, IsIndex, slot_cmp, slot_in}
use Rattle.mtn_roster.specs.Building.{SlotsDiffer}
use Rattle.mtn_base.proofs.Members.{taken}
use Rattle.mtn_roster.proofs.Slots.{same_slot-is, same_slot-self}
use Rattle.mtn_base.proofs.Sorting.{Sorts}
use Rattle.mtn_roster.proofs.BySlot.{slots_total, exact_slots, slot_is}

module _ (t : Tree) where
  abbrev twin_places : ℕ → ℕ → Bool
  twin_places a b = same_slot (slot_in t a) (slot_in t b)

  slot_at : (k : ℕ) (d : Entry) → k < length t → slot_in t k ≡ (get_or t k d).slot
  slot_at k d low = let r = taken t k low in slot_is t k r.0 r.1 ∙ ap (λ (e : Entry). e.slot) (sym (r.3 d))

  test_at : (i j : ℕ) (d : Entry) → i < length t → j < length t → twin_places i j ≡ same_slot (get_or t i d).slot (get_or t j d).slot
  test_at i j d li lj = ap (λ s. same_slot s (slot_in t j)) (slot_at i d li) ∙ ap (same_slot (get_or t i d).slot) (slot_at j d lj)

  module _ (ps : List ℕ) (at : ArePlaces (length t) ps) where
    own_test : (i j d : ℕ) → i < length t → j < length t → twin_places (get_or ps i d) (get_or ps j d) ≡ twin_places i j
    own_test i j d li lj = ap (λ k. twin_places k (get_or ps j d)) (at.own i d li) ∙ ap (twin_places i) (at.own j d lj)

    slots_of : IsDistinct twin_places ps → SlotsDiffer t
    slots_of h = IsDistinct-from_apart (λ (e : Entry) (f : Entry). same_slot e.slot f.slot) t (λ i j d lt low.
        let li : i < length t = omega arith in
        let bound : j < length ps = omega (arith, at.long) in
        sym (test_at i j d li low) ∙ sym (own_test i j 0 li low) ∙ apart_from_distinct twin_places ps i j 0 h lt bound)

    places_of : SlotsDiffer t → IsDistinct twin_places ps
    places_of h = IsDistinct-from_apart twin_places ps (λ i j d lt low.
        let lj : j < length t = omega (arith, at.long) in
        let li : i < length t = omega arith in
        let r = taken t i li in
        own_test i j d li lj ∙ test_at i j r.0 li lj ∙ apart_from_distinct (λ (e : Entry) (f : Entry). same_slot e.slot f.slot) t i j r.0 h lt lj)

    all_within : (ks : List ℕ) → IsPermutation ps ks → All (λ k. k < length t) ks
    all_within ks moved = All-permutation (λ k. k < length t) ps ks moved (All-from_get_or (λ k. k < length t) ps 0 (λ i h.
        let low : i < length t = omega (arith, h, at.long) in
        subst (λ k. k < length t) (sym (at.own i 0 low)) low))

    all_there : (ks : List ℕ) → IsPermutation ps ks → (k : ℕ) → k < length t → Contains ks k
    all_there ks moved k h =
        let low : k < length ps = omega (arith, h, at.long) in
        Contains-permutation ps ks k moved (subst (Contains ps) (at.own k 0 h) (Contains-get_or ps k 0 low))

    pub record Indexes (ks : List ℕ) (r : Bool) : Type 0 where
      pub apart : IsTrue r ↔ SlotsDiffer t
      pub index : IsTrue r → IsIndex t ks

    pub indexes : (ks : List ℕ) (r : Bool) → IsPermutation ps ks → Sorts slot_cmp (slot_in t) slots_total same_slot same_slot-is same_slot-self exact_slots ps ks r → Indexes ks r
    indexes ks r moved s = record {
      apart = (λ e. slots_of (s.apart.0 e), λ d. s.apart.1 (places_of d));
      index = λ e. record { rising = s.rising e; within = all_within ks moved; all = all_there ks moved };
    }
