-- What a binary search finds in an index by slot.
use Rattle.std.specs.Prelude.{slice_get}
use Rattle.std.specs.Option.{option_map_or}
use Rattle.std.specs.List.Sorted.{IsBinarySearchResult}
use Rattle.std.specs.declared.cmp.Ordering.{Ordering}
use Rattle.std.specs.declared.cmp.Ordering.TheVariants.{Less, Equal, Greater}
use Rattle.std.specs.Ordering.{ordering_then, ordering_reverse}
use Rattle.std.specs.Cmp.{IsTotalOrder, on_total, then_total, tied_itself}
use Rattle.std.proofs.Common.{◌≡◌, ℕ, ◌<◌, ◌≤◌, List, length, get_or, Some, None, Err, refl, sym, ◌∙◌, ap, subst, arith, inl, inr}
use Rattle.std.proofs.lemmas.Bool.{cases_lt}
use Rattle.std.proofs.lemmas.List.Sorted.{searchable_from_sorted}
use Rattle.std.proofs.lemmas.List.Elements.{All-get_or, at_from_Contains}
use Rattle.mtn_base.specs.Names.{bytes_cmp, name_cmp}
use Rattle.mtn_base.specs.declared.name.NodeName.{NodeName}
use Rattle.mtn_roster.specs.declared.entry.Entry.{Entry}
use Rattle.mtn_roster.specs.declared.entry.Slot.{Slot}
use Rattle.mtn_roster.specs.declared.entry.Slot.TheVariants.{Root, Below}
use Rattle.mtn_roster.specs.Tree.{Tree, at_slot, same_slot}
use Rattle.mtn_roster.specs.Index.{IsIndex, slot_cmp, slot_in}
use Rattle.mtn_base.proofs.Finding.{Split, found, finds_some}
use Rattle.mtn_roster.proofs.Slots.{same_slot-is, same_slot-self}
use Rattle.mtn_base.proofs.Sorting.{less_at}
use Rattle.mtn_base.proofs.Orders.{bytes_total, names_total, exact_names, exact_bytes}
use Rattle.mtn_base.proofs.Members.{taken, place_of}
use Rattle.mtn_roster.proofs.Searching.{sorted_of_rises}

abbrev pair_cmp : NodeName × List ℕ → NodeName × List ℕ → Ordering
pair_cmp x y = ordering_then (name_cmp x.0 y.0) (bytes_cmp x.1 y.1)

pairs_total : IsTotalOrder pair_cmp
pairs_total = then_total (on_total (λ (x : NodeName × List ℕ). x.0) names_total) (on_total (λ (x : NodeName × List ℕ). x.1) bytes_total)

anti : (s r : Slot) → slot_cmp s r ≡ ordering_reverse (slot_cmp r s)
anti Root Root = refl
anti Root (Below q b) = refl
anti (Below p a) Root = refl
anti (Below p a) (Below q b) = pairs_total.antisymm (p, a) (q, b)

chain : (x y z : Slot) → slot_cmp x y ≡ Less → slot_cmp y z ≡ Less → slot_cmp x z ≡ Less
chain Root Root z h g = absurd cc
chain Root (Below q b) Root h g = absurd cc
chain Root (Below q b) (Below r c) h g = refl
chain (Below p a) Root z h g = absurd cc
chain (Below p a) (Below q b) Root h g = absurd cc
chain (Below p a) (Below q b) (Below r c) h g = pairs_total.trans (p, a) (q, b) (r, c) h g

tie : (x y z : Slot) → slot_cmp x y ≡ Equal → slot_cmp x z ≡ slot_cmp y z
tie Root Root z h = refl
tie Root (Below q b) z h = absurd cc
tie (Below p a) Root z h = absurd cc
tie (Below p a) (Below q b) Root h = refl
tie (Below p a) (Below q b) (Below r c) h = pairs_total.congr (p, a) (q, b) (r, c) h

pub slots_total : IsTotalOrder slot_cmp
slots_total = record { antisymm = anti; trans = chain; congr = tie }

parts : (a b : Ordering) → ordering_then a b ≡ Equal → (a ≡ Equal) × (b ≡ Equal)
parts Less b h = absurd cc
parts Equal b h = (refl, h)
parts Greater b h = absurd cc

pub exact_slots : (s r : Slot) → slot_cmp s r ≡ Equal → s ≡ r
exact_slots Root Root h = refl
exact_slots Root (Below q b) h = absurd cc
exact_slots (Below p a) Root h = absurd cc
exact_slots (Below p a) (Below q b) h =
    let t = parts (name_cmp p q) (bytes_cmp a b) h in
    λ i. Below (exact_names p q t.0 i) (exact_bytes a b t.1 i)

none_there : (t : Tree) (s : Slot) → ((e : Entry) → at_slot t s ≡ Some e → ⊥) → None ≡ at_slot t s
none_there t s h = elim (at_slot t s) as (λ o. at_slot t s ≡ o → None ≡ o) [ None ↦ λ e. refl | Some x ↦ λ e. absurd (h x e) ] refl

pub slot_is : (t : Tree) (k : ℕ) (e : Entry) → slice_get t k ≡ Some e → slot_in t k ≡ e.slot
slot_is t k e h = ap (λ o. option_map_or (λ (e : Entry). e.slot) o Root) h

-- where an element of a tree stands
pub standing : (t : Tree) (e : Entry) → Split t e → (k : ℕ) × (k < length t) × (slice_get t k ≡ Some e)
standing t e s =
    let q = place_of t e s in
    let r = taken t q.0 q.1 in
    (q.0, q.1, r.1 ∙ ap Some (sym (r.3 e) ∙ q.2 e))

module _ (t : Tree) (ks : List ℕ) (index : IsIndex t ks) where
  apart : (a b : ℕ) → a < b → b < length ks → slot_in t (get_or ks a 0) ≡ slot_in t (get_or ks b 0) → ⊥
  apart a b lt low same =
      let less = less_at slot_cmp (slot_in t) slots_total ks a b 0 index.rising lt low in
      let equal : slot_cmp (slot_in t (get_or ks a 0)) (slot_in t (get_or ks b 0)) ≡ Equal = ap (slot_cmp (slot_in t (get_or ks a 0))) (sym same) ∙ tied_itself slots_total (slot_in t (get_or ks a 0)) in
      cc

  -- places of one slot are one
  pub one_place : (i j : ℕ) → i < length t → j < length t → slot_in t i ≡ slot_in t j → i ≡ j
  one_place i j li lj same =
      let a = at_from_Contains ks i (index.all i li) in
      let b = at_from_Contains ks j (index.all j lj) in
      let alike : slot_in t (get_or ks a.0 0) ≡ slot_in t (get_or ks b.0 0) = ap (slot_in t) (a.2 0) ∙ same ∙ ap (slot_in t) (sym (b.2 0)) in
      elim (cases_lt a.0 b.0) [
        | inl lt ↦ absurd (apart a.0 b.0 lt b.1 alike)
        | inr ge ↦ elim (cases_lt b.0 a.0) [
          | inl lt ↦ absurd (apart b.0 a.0 lt a.1 (sym alike))
          | inr le ↦ let e : a.0 ≡ b.0 = omega arith in sym (a.2 0) ∙ ap (λ n. get_or ks n 0) e ∙ b.2 0
        ]
      ]

  -- the entry at a place is what hangs at its slot
  pub at_slot-at : (k : ℕ) (e : Entry) → k < length t → slice_get t k ≡ Some e → at_slot t e.slot ≡ Some e
  at_slot-at k e low h =
      let r = taken t k low in
      let is : r.0 ≡ e = cc in
      let y = finds_some (λ f. same_slot f.slot e.slot) t e (subst (Split t) is r.2) (same_slot-self e.slot) in
      let f = found (λ f. same_slot f.slot e.slot) t y.0 y.1 in
      let q = standing t y.0 f.at in
      let same : k ≡ q.0 = one_place k q.0 low q.1 (slot_is t k e h ∙ sym (same_slot-is y.0.slot e.slot f.passes) ∙ sym (slot_is t q.0 y.0 q.2)) in
      y.1 ∙ sym q.2 ∙ ap (slice_get t) (sym same) ∙ h

  module _ (s : Slot) where
    -- the entry at a place of that slot
    pub found_at : (i : ℕ) → i < length ks → ((d : ℕ) → slot_cmp (slot_in t (get_or ks i d)) s ≡ Equal) → slice_get t (get_or ks i 0) ≡ at_slot t s
    found_at i lt h =
        let k = get_or ks i 0 in
        let low : k < length t = All-get_or (λ k. k < length t) ks i 0 lt index.within in
        let r = taken t k low in
        let e : Entry = r.0 in
        let slot : e.slot ≡ s = sym (slot_is t k e r.1) ∙ exact_slots (slot_in t k) s (h 0) in
        r.1 ∙ sym (at_slot-at k e low r.1) ∙ ap (at_slot t) slot

    -- and none, where the search misses
    pub absent_at : (i : ℕ) → i ≤ length ks → IsBinarySearchResult (λ k. slot_cmp (slot_in t k) s) ks (Err i) → None ≡ at_slot t s
    absent_at i le at =
        let p = at (searchable_from_sorted slots_total (slot_in t) ks s (λ k d a b. sorted_of_rises slot_cmp (slot_in t) slots_total ks index.rising k d b)) in
        none_there t s (λ e g.
        let f = found (λ f. same_slot f.slot s) t e g in
        let q = standing t e f.at in
        let same : slot_in t q.0 ≡ s = slot_is t q.0 e q.2 ∙ same_slot-is e.slot s f.passes in
        let equal : slot_cmp (slot_in t q.0) s ≡ Equal = ap (λ x. slot_cmp x s) same ∙ tied_itself slots_total s in
        let j = at_from_Contains ks q.0 (index.all q.0 q.1) in
        let here : slot_cmp (slot_in t (get_or ks j.0 0)) s ≡ Equal = ap (λ k. slot_cmp (slot_in t k) s) (j.2 0) ∙ equal in
        elim (cases_lt j.0 i) [
          | inl lt ↦ absurd (let a = p.0 j.0 0 (omega arith) lt in cc)
          | inr ge ↦ absurd (let a = p.1 j.0 0 ge j.1 in cc)
        ])
