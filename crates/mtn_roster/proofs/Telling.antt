-- The tests of sanity tell it.
use Rattle.std.specs.Prelude.{◌&&◌, not, map, IsTrue, slice_get}
use Rattle.std.specs.Cmp.{first_so, second_so, tied_itself}
use Rattle.std.specs.Cmp.Lexicographic.{bytes_decides}
use Rattle.std.specs.declared.cmp.Ordering.TheVariants.{Equal}
use Rattle.std.proofs.Common.{◌≡◌, ℕ, zero, suc, ◌<◌, ◌≤◌, Bool, true, false, List, [], ◌∷◌, length, get_or, Option, Some, refl, sym, ◌∙◌, ap, subst, ⊎_elim, arith}
use Rattle.std.proofs.lemmas.Map.Keys.{IsDistinct-from_apart}
use Rattle.mtn_base.specs.Names.{same_bytes, name_cmp}
use Rattle.mtn_base.specs.declared.name.NodeName.{NodeName}
use Rattle.mtn_roster.specs.declared.entry.Entry.{Entry}
use Rattle.mtn_roster.specs.declared.entry.Slot.{Slot}
use Rattle.mtn_roster.specs.declared.entry.Slot.TheVariants.{Root, Below}
use Rattle.mtn_roster.specs.Tree.{Tree, entry_of, at_slot, root_of, node_up, is_dir, is_root_slot, same_slot, mtn, EndsAtRoot, IsSaneMap}
use Rattle.mtn_base.specs.Lists.{is_some_with, rises}
use Rattle.mtn_roster.specs.Tree.EndsAtRoot.{top, under}
use Rattle.mtn_roster.specs.Index.{IsIndex, slot_in}
use Rattle.mtn_roster.specs.Building.{SlotsDiffer, hangs_well, IsUp, AreUps, climbed}
use Rattle.mtn_base.proofs.Finding.{Split, found, passing_some}
use Rattle.mtn_base.proofs.Members.{taken}
use Rattle.mtn_base.proofs.Tests.{told, both_true}
use Rattle.mtn_roster.proofs.Slots.{same_slot-is}
use Rattle.mtn_roster.proofs.Forest.{IsForest, name_of, split_of, same_some, at_slot-is, at_slot-of, node_below, node_there}
use Rattle.mtn_roster.proofs.Ordered.{distinct_of}
use Rattle.mtn_base.proofs.Orders.{names_total}
use Rattle.mtn_base.proofs.Sorting.{less_at}
use Rattle.mtn_roster.proofs.BySlot.{slot_is, standing, one_place}
use Rattle.mtn_roster.proofs.Pathing.{climb, path_fits}

is_some_at : {A : Type 0} (f : A → Bool) (o : Option A) (a : A) → o ≡ Some a → f a ≡ true → is_some_with f o ≡ true
is_some_at f o a e h = ap (is_some_with f) e ∙ h

untrue : (b : Bool) → not b ≡ true → b ≡ false
untrue true h = absurd cc
untrue false h = refl

root_is : (q : Slot) → is_root_slot q ≡ true → q ≡ Root
root_is Root g = refl
root_is (Below a b) g = absurd cc

module _ (t : Tree) (rising : rises name_cmp (map (λ (e : Entry). e.name) t) ≡ true) where
  there : (e : Entry) → Split t e → entry_of t e.name ≡ Some e
  there = distinct_of t rising

  module _ (ks : List ℕ) (index : IsIndex t ks) (r : ℕ) (low : r < length t) (e : Entry) (at : slice_get t r ≡ Some e) (is : root_of t ≡ Some e) (ups : List ℕ) (up : AreUps t ups) where
    root_slot : e.slot ≡ Root
    root_slot = same_slot-is e.slot Root (found (λ (f : Entry). same_slot f.slot Root) t e is).passes

    -- the root is its own parent
    pub top_is : get_or ups r 0 ≡ r
    top_is = subst (λ s. IsUp t s r (get_or ups r 0)) (slot_is t r e at ∙ root_slot) (up.each r low)

    step_up : (s : Slot) (k u : ℕ) → IsUp t s k u → (u < length t → EndsAtRoot (entry_of t) (slot_in t u)) → EndsAtRoot (entry_of t) s
    step_up Root k u h ends = top
    step_up (Below parent name) k u h ends =
        let d = taken t u h.0 in
        under (sym h.1 ∙ d.1) (subst (EndsAtRoot (entry_of t)) (slot_is t u d.0 d.1) (ends h.0))

    chain_by : (n k : ℕ) → k < length t → climbed ups n k ≡ r → EndsAtRoot (entry_of t) (slot_in t k)
    chain_by zero k lk h = subst (EndsAtRoot (entry_of t)) (sym (ap (slot_in t) h ∙ slot_is t r e at ∙ root_slot)) top
    chain_by (suc n) k lk h = step_up (slot_in t k) k (get_or ups k 0) (up.each k lk) (λ low. chain_by n (get_or ups k 0) low h)

    slots : (n m : NodeName) (e f : Entry) → entry_of t n ≡ Some e → entry_of t m ≡ Some f → e.slot ≡ f.slot → n ≡ m
    slots n m e f p q g =
        let a = standing t e (split_of t n e p) in
        let b = standing t f (split_of t m f q) in
        let one : a.0 ≡ b.0 = one_place t ks index a.0 b.0 a.1 b.1 (slot_is t a.0 e a.2 ∙ g ∙ sym (slot_is t b.0 f b.2)) in
        let same : e ≡ f = same_some a.2 (ap (slice_get t) one ∙ b.2) in
        sym (name_of t n e p) ∙ ap (λ (x : Entry). x.name) same ∙ name_of t m f q

    module _ (dir : is_dir e ≡ true) (well : (k : ℕ) → k < length t → hangs_well t (slot_in t k) ≡ true) (reach : (k : ℕ) → k < length ups → (n : ℕ) × (climbed ups n k ≡ r)) where
      parent : (n p : NodeName) (f : Entry) (name : List ℕ) → entry_of t n ≡ Some f → f.slot ≡ Below p name →
          (d : Entry) × (entry_of t p ≡ Some d) × ((is_dir d && not (is_root_slot d.slot && same_bytes name mtn)) ≡ true)
      parent n p f name has hangs =
          let a = standing t f (split_of t n f has) in
          passing_some (λ d. is_dir d && not (is_root_slot d.slot && same_bytes name mtn)) (entry_of t p)
          (ap (hangs_well t) (sym hangs ∙ sym (slot_is t a.0 f a.2)) ∙ well a.0 a.1)

      pub sane_by_test : IsSaneMap (entry_of t)
      sane_by_test = record {
        root = (e.name, e, there e (found (λ (f : Entry). same_slot f.slot Root) t e is).at, root_slot, dir);
        one_root = λ n m e f p q a b. slots n m e f p q (a ∙ sym b);
        parents = λ n p e name at is. let d = parent n p e name at is in (d.0, d.1, first_so _ _ d.2);
        slots = slots;
        rooted = λ n f has.
            let a = standing t f (split_of t n f has) in
            let c = reach a.0 (omega (arith, a.1, up.long)) in
            subst (EndsAtRoot (entry_of t)) (slot_is t a.0 f a.2) (chain_by c.0 a.0 a.1 c.1);
        not_mtn = λ n m e r at ar root is.
            let d = parent n m e mtn at is in
            let same : d.0 ≡ r = same_some d.1 ar in
            let k : (is_root_slot d.0.slot && same_bytes mtn mtn) ≡ false = untrue _ (second_so (is_dir d.0) _ d.2) in
            let g : (is_root_slot d.0.slot && same_bytes mtn mtn) ≡ true = both_true _ _ (ap is_root_slot (ap (λ (x : Entry). x.slot) same ∙ root)) refl in
            let z : true ≡ false = sym g ∙ k in cc;
      }

  module _ (s : IsSaneMap (entry_of t)) where
    forest : IsForest t
    forest = record {
      distinct = there;
      parents = s.parents;
      slots = s.slots;
      rooted = s.rooted;
      root_dir = λ n e at is.
          let g : n ≡ s.root.0 = s.one_root n s.root.0 e s.root.1 at s.root.2 is s.root.3 in
          let same : s.root.1 ≡ e = same_some (subst (λ m. entry_of t m ≡ Some s.root.1) (sym g) s.root.2) at in
          subst (λ f. IsTrue (is_dir f)) same s.root.4;
      not_mtn = s.not_mtn;
    }

    -- no two places have the same slot
    pub slots_by_sane : SlotsDiffer t
    slots_by_sane = IsDistinct-from_apart (λ (e : Entry) (f : Entry). same_slot e.slot f.slot) t (λ i j d lt low.
        let li : i < length t = omega arith in
        let a = taken t i li in
        let b = taken t j low in
        let e = get_or t i d in
        let f = get_or t j d in
        elim (same_slot e.slot f.slot) as (λ b. same_slot e.slot f.slot ≡ b → b ≡ false) [
          | false ↦ λ q. refl
          | true ↦ λ q. absurd (
              let name : e.name ≡ f.name = s.slots e.name f.name e f (there e (subst (Split t) (sym (a.3 d)) a.2)) (there f (subst (Split t) (sym (b.3 d)) b.2)) (same_slot-is e.slot f.slot q) in
              let less = less_at name_cmp (λ (e : Entry). e.name) names_total t i j d rising lt low in
              let equal : name_cmp e.name f.name ≡ Equal = ap (name_cmp e.name) (sym name) ∙ tied_itself names_total e.name in
              cc)
        ] refl)

    pub root_by_sane : root_of t ≡ Some s.root.1
    root_by_sane = ap (at_slot t) (sym s.root.3) ∙ at_slot-of t forest s.root.0 s.root.1 s.root.2

    well : (e : Entry) → entry_of t e.name ≡ Some e → (q : Slot) → e.slot ≡ q → hangs_well t q ≡ true
    well e at Root is = refl
    well e at (Below p name) is =
        let d = s.parents e.name p e name at is in
        is_some_at (λ d. is_dir d && not (is_root_slot d.slot && same_bytes name mtn)) (entry_of t p) d.0 d.1
        (both_true _ _ d.2 (⊎_elim
        (λ a.
        let n : name ≡ mtn = (bytes_decides name mtn).0 (second_so (is_root_slot d.0.slot) _ a) in
        absurd (s.not_mtn e.name p e d.0 at d.1 (root_is d.0.slot (first_so _ _ a)) (is ∙ ap (Below p) n)))
        (λ b. ap not b) (told (is_root_slot d.0.slot && same_bytes name mtn))))

    pub well_by_sane : (k : ℕ) → k < length t → hangs_well t (slot_in t k) ≡ true
    well_by_sane k low =
        let a = taken t k low in
        well a.0 (there a.0 a.2) (slot_in t k) (sym (slot_is t k a.0 a.1))

    module _ (ks : List ℕ) (index : IsIndex t ks) (r : ℕ) (low : r < length t) (e : Entry) (at : slice_get t r ≡ Some e) (is : root_of t ≡ Some e) (ups : List ℕ) (up : AreUps t ups) where
      root_here : slot_in t r ≡ Root
      root_here = slot_is t r e at ∙ same_slot-is e.slot Root (found (λ (f : Entry). same_slot f.slot Root) t e is).passes

      stays : (n : ℕ) → climbed ups n r ≡ r
      stays zero = refl
      stays (suc n) = let u : get_or ups r 0 ≡ r = subst (λ s. IsUp t s r (get_or ups r 0)) root_here (up.each r low) in ap (climbed ups n) u ∙ stays n

      leads : (vp : List (List ℕ)) (f : Entry) (k n : ℕ) → k < length t → slice_get t k ≡ Some f → node_up t vp ≡ Some f → length vp ≤ n → climbed ups n k ≡ r
      leads [] f k n lk has on h =
          let one : k ≡ r = one_place t ks index k r lk low (slot_is t k f has ∙ (at_slot-is t forest Root f on).0 ∙ sym root_here) in
          ap (climbed ups n) one ∙ stays n
      leads (name ∷ vp) f k zero lk has on h = absurd (omega (arith, h))
      leads (name ∷ vp) f k (suc n) lk has on h =
          let d = node_below t forest name vp f on in
          let u : IsUp t (Below d.0.name name) k (get_or ups k 0) = subst (λ s. IsUp t s k (get_or ups k 0)) (slot_is t k f has ∙ d.2) (up.each k lk) in
          leads vp d.0 (get_or ups k 0) n u.0 (u.1 ∙ node_there t forest vp d.0 d.1) d.1 (omega (arith, h))

      pub reach_by_sane : (k n : ℕ) → k < length ups → length ups ≤ n → climbed ups n k ≡ r
      reach_by_sane k n lk far =
          let lt : k < length t = omega (arith, up.long) in
          let a = taken t k lt in
          let c = climb t forest (s.rooted a.0.name a.0 (there a.0 a.2)) a.0 (there a.0 a.2) refl in
          leads c.0 a.0 k n lt a.1 c.1 (omega (arith, path_fits t forest c.0 a.0 c.1, up.long))
