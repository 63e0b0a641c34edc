-- The references are sorted, and the neighbours tell whether nodes are apart.
use Rattle.std.proofs.Common.{◌≡◌, Bool, Bor, List, rules, subst}
use Rattle.std.specs.List.{IsAllAdjacentAnswer}
use Rattle.std.specs.Ordering.{is_lt}
use Rattle.std.proofs.lemmas.Fn.{always_returns_same}
use Rattle.std.proofs.lemmas.List.Sorted.{ranks_by, answers_always}
use Rattle.mtn_base.specs.Names.{name_cmp}
use Rattle.mtn_records.specs.declared.entry.NumberedEntry.{NumberedEntry}
use Rattle.mtn_base.proofs.Orders.{names_total}
use Rattle.mtn_roster_deltas.proofs.ByNode.{sorts_nodes}
use Rattle.mtn_roster_deltas.proofs.sorted.sorted_of.Goals as goal

abbrev lower : Bor NumberedEntry → Bor NumberedEntry → Bool
lower x y = is_lt (name_cmp x.now.node y.now.node)

pub returns-clause-ok : goal.returns-clause-ok
returns-clause-ok c =
    (sorts_nodes c.args.entries.now c.in_ok-sorted.sorted.items c.sort_by.new.self.items c.is_sorted_by.result c.in_ok-sorted.ensures c.in_ok-sort_by.ensures.permutation
    (c.in_ok-sort_by.ensures.sorted lower (ranks_by names_total (λ b. b.now.node)) (answers_always _ _ _ (λ f a r g k. search rules)))
    (subst (λ (t : List (Bor NumberedEntry)). IsAllAdjacentAnswer (λ x y b. b ≡ lower x y) t c.is_sorted_by.result) c.deref.ensures.value
    (c.is_sorted_by.ensures.cases lower (always_returns_same _ _ _ (λ a r g called. (search rules, search rules)))))).order c.if-not-is_sorted_by.false

pub returns-clause-apart : goal.returns-clause-apart
returns-clause-apart c =
    (sorts_nodes c.args.entries.now c.in_ok-sorted.sorted.items c.sort_by.new.self.items c.is_sorted_by.result c.in_ok-sorted.ensures c.in_ok-sort_by.ensures.permutation
    (c.in_ok-sort_by.ensures.sorted lower (ranks_by names_total (λ b. b.now.node)) (answers_always _ _ _ (λ f a r g k. search rules)))
    (subst (λ (t : List (Bor NumberedEntry)). IsAllAdjacentAnswer (λ x y b. b ≡ lower x y) t c.is_sorted_by.result) c.deref.ensures.value
    (c.is_sorted_by.ensures.cases lower (always_returns_same _ _ _ (λ a r g called. (search rules, search rules)))))).apart.0 c.if-not-is_sorted_by.false

pub returns-then-not-is_sorted_by-clause-bad : goal.returns-then-not-is_sorted_by-clause-bad
returns-then-not-is_sorted_by-clause-bad c =
    let told =
    sorts_nodes c.args.entries.now c.in_ok-sorted.sorted.items c.sort_by.new.self.items c.is_sorted_by.result c.in_ok-sorted.ensures c.in_ok-sort_by.ensures.permutation
    (c.in_ok-sort_by.ensures.sorted lower (ranks_by names_total (λ b. b.now.node)) (answers_always _ _ _ (λ f a r g k. search rules)))
    (subst (λ (t : List (Bor NumberedEntry)). IsAllAdjacentAnswer (λ x y b. b ≡ lower x y) t c.is_sorted_by.result) c.deref.ensures.value
    (c.is_sorted_by.ensures.cases lower (always_returns_same _ _ _ (λ a r g called. (search rules, search rules))))) in
    λ h d. let a = told.apart.1 d in let b = c.if-not-is_sorted_by.true in cc
