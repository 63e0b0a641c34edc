-- The names ascend as they stand, or once they are arranged by their keys, or once they are sorted.
use Rattle.std.proofs.Common.{◌≡◌, Bool, true, subst}
use Rattle.std.proofs.lemmas.List.Sorted.{IsPermutation-refl, IsPermutation-trans}
use Rattle.std.specs.List.{IsAllAdjacentAnswer}
use Rattle.std.specs.List.Sorted.{IsPermutation}
use Rattle.std.specs.Ordering.{is_lt}
use Rattle.mtn_base.specs.Names.{name_cmp, same_name}
use Rattle.mtn_roster.specs.declared.entry.Entry.{Entry}
use Rattle.mtn_roster.specs.Tree.{Tree}
use Rattle.mtn_base.proofs.Tests.{same_name-is, same_name-self}
use Rattle.mtn_base.proofs.Orders.{names_total, exact_names}
use Rattle.mtn_base.proofs.Sorting.{Sorts, sorts, sorts_already}
use Rattle.mtn_roster.proofs.build.sort_names.Goals as goal

abbrev Told : Tree → Bool → Type 0
Told t r = IsAllAdjacentAnswer (λ (x : Entry) (y : Entry) b. b ≡ is_lt (name_cmp x.name y.name)) t r

abbrev Put : Tree → Tree → Bool → Type 0
Put t s r = Sorts name_cmp (λ (e : Entry). e.name) names_total same_name same_name-is same_name-self exact_names t s r

already : (t s : Tree) → IsPermutation t s → Told s true → Put t s true
already t s p told = sorts_already name_cmp (λ (e : Entry). e.name) names_total same_name same_name-is same_name-self exact_names t s p told

at_first : (c : goal.Then-names_ascend) → Put c.args.entries.now.items c.args.entries.now.items true
at_first c =
    let es = c.args.entries.now.items in
    already es es (IsPermutation-refl es) (subst (λ (t : Tree). Told t true) c.deref.ensures.value (subst (Told c.deref.result.now) c.if-names_ascend.true c.names_ascend.ensures))

pub returns-then-names_ascend-clause-apart : goal.returns-then-names_ascend-clause-apart
returns-then-names_ascend-clause-apart c = (at_first c).apart

pub returns-then-names_ascend-clause-order : goal.returns-then-names_ascend-clause-order
returns-then-names_ascend-clause-order c = (at_first c).order

by_keys : (c : goal.Then-names_ascend-2) → Put c.args.entries.now.items c.arrange_unless_half-arranged.new.entries.items true
by_keys c =
    already c.args.entries.now.items c.arrange_unless_half-arranged.new.entries.items c.arrange_unless_half-arranged.ensures
    (subst (λ (t : Tree). Told t true) c.deref-then-arranged.ensures.value (subst (Told c.deref-then-arranged.result.now) c.if-names_ascend-2.true c.names_ascend-then-arranged.ensures))

pub returns-then-names_ascend-2-clause-apart : goal.returns-then-names_ascend-2-clause-apart
returns-then-names_ascend-2-clause-apart c = (by_keys c).apart

pub returns-then-names_ascend-2-clause-order : goal.returns-then-names_ascend-2-clause-order
returns-then-names_ascend-2-clause-order c = (by_keys c).order

both : (c : goal.After-names_ascend-2) → Put c.args.entries.now.items c.sort_entries.new.entries.items c.names_ascend-2.result
both c =
    let t = c.args.entries.now.items in
    let moved = IsPermutation-trans t c.arrange_unless_half-arranged.new.entries.items c.sort_entries.new.entries.items c.arrange_unless_half-arranged.ensures c.sort_entries.ensures.permutation in
    sorts name_cmp (λ (e : Entry). e.name) names_total same_name same_name-is same_name-self exact_names t c.sort_entries.new.entries.items c.names_ascend-2.result moved
    c.sort_entries.ensures.sorted (subst (λ (t : Tree). Told t c.names_ascend-2.result) c.deref-2.ensures.value c.names_ascend-2.ensures)

pub returns-clause-apart : goal.returns-clause-apart
returns-clause-apart c = (both c).apart

pub returns-clause-order : goal.returns-clause-order
returns-clause-order c = (both c).order
