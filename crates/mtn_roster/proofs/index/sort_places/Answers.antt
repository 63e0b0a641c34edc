-- The slots ascend once the places are together, or once the families are sorted, or once all are.
use Rattle.std.proofs.Common.{◌≡◌, ℕ, List, Bool, true, length, rules, subst}
use Rattle.std.proofs.lemmas.Fn.{always_returns_same}
use Rattle.std.proofs.lemmas.List.Sorted.{ranks_by, IsPermutation-trans}
use Rattle.std.specs.List.{IsAllAdjacentAnswer}
use Rattle.std.specs.List.Sorted.{IsPermutation}
use Rattle.std.specs.Ordering.{is_lt}
use Rattle.mtn_roster.specs.Tree.{Tree, same_slot}
use Rattle.mtn_roster.specs.Index.{ArePlaces, slot_cmp, slot_in}
use Rattle.mtn_roster.proofs.Slots.{same_slot-is, same_slot-self}
use Rattle.mtn_roster.proofs.BySlot.{slots_total, exact_slots}
use Rattle.mtn_base.proofs.Sorting.{sorts, sorts_already}
use Rattle.mtn_roster.proofs.Indexing.{Indexes, indexes}
use Rattle.mtn_roster.proofs.index.sort_places.Goals as goal

abbrev lower : Tree → ℕ → ℕ → Bool
lower t x y = is_lt (slot_cmp (slot_in t x) (slot_in t y))

abbrev Told : Tree → List ℕ → Bool → Type 0
Told t ks r = IsAllAdjacentAnswer (λ x y b. b ≡ lower t x y) ks r

already : (t : Tree) (ps ks : List ℕ) (at : ArePlaces (length t) ps) → IsPermutation ps ks → Told t ks true → Indexes t ps at ks true
already t ps ks at moved told = indexes t ps at ks true moved (sorts_already slot_cmp (slot_in t) slots_total same_slot same_slot-is same_slot-self exact_slots ps ks moved told)

at_first : (c : goal.Then-slots_ascend) → Indexes c.args.entries.now c.args.places.now.items c.requires.places c.group_places.new.places.items true
at_first c =
    let t = c.args.entries.now in
    already t c.args.places.now.items c.group_places.new.places.items c.requires.places c.group_places.ensures
    (subst (λ (ks : List ℕ). Told t ks true) c.deref.ensures.value (subst (Told t c.deref.result.now) c.if-slots_ascend.true c.slots_ascend.ensures))

pub returns-then-slots_ascend-clause-apart : goal.returns-then-slots_ascend-clause-apart
returns-then-slots_ascend-clause-apart c = (at_first c).apart

pub returns-then-slots_ascend-clause-index : goal.returns-then-slots_ascend-clause-index
returns-then-slots_ascend-clause-index c = (at_first c).index

by_families : (c : goal.Then-slots_ascend-2) → Indexes c.args.entries.now c.args.places.now.items c.requires.places c.sort_families.new.places.items true
by_families c =
    let t = c.args.entries.now in
    already t c.args.places.now.items c.sort_families.new.places.items c.requires.places (IsPermutation-trans _ _ _ c.group_places.ensures c.sort_families.ensures)
    (subst (λ (ks : List ℕ). Told t ks true) c.deref-2.ensures.value (subst (Told t c.deref-2.result.now) c.if-slots_ascend-2.true c.slots_ascend-2.ensures))

pub returns-then-slots_ascend-2-clause-apart : goal.returns-then-slots_ascend-2-clause-apart
returns-then-slots_ascend-2-clause-apart c = (by_families c).apart

pub returns-then-slots_ascend-2-clause-index : goal.returns-then-slots_ascend-2-clause-index
returns-then-slots_ascend-2-clause-index c = (by_families c).index

both : (c : goal.After-slots_ascend-3) → Indexes c.args.entries.now c.args.places.now.items c.requires.places c.sort_unstable_by.new.self.items c.slots_ascend-3.result
both c =
    let t = c.args.entries.now in
    let moved : IsPermutation c.args.places.now.items c.sort_unstable_by.new.self.items = IsPermutation-trans _ _ _ (IsPermutation-trans _ _ _ c.group_places.ensures c.sort_families.ensures) c.sort_unstable_by.ensures.permutation in
    indexes t c.args.places.now.items c.requires.places c.sort_unstable_by.new.self.items c.slots_ascend-3.result moved
    (sorts slot_cmp (slot_in t) slots_total same_slot same_slot-is same_slot-self exact_slots c.args.places.now.items c.sort_unstable_by.new.self.items c.slots_ascend-3.result moved
    (c.sort_unstable_by.ensures.sorted (lower t) (ranks_by slots_total (slot_in t)) (always_returns_same _ _ _ (λ a r g called. (let u = c.requires.ups in let v = c.requires.rising in search rules, search rules))))
    (subst (λ (ks : List ℕ). Told t ks c.slots_ascend-3.result) c.deref-3.ensures.value c.slots_ascend-3.ensures))

pub returns-clause-apart : goal.returns-clause-apart
returns-clause-apart c = (both c).apart

pub returns-clause-index : goal.returns-clause-index
returns-clause-index c = (both c).index
