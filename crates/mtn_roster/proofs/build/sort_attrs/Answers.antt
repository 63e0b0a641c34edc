-- Both closures compare the keys.
use Rattle.std.proofs.Common.{◌≡◌, Bool, rules, subst}
use Rattle.std.proofs.lemmas.Fn.{always_returns_same}
use Rattle.std.proofs.lemmas.List.Sorted.{ranks_by}
use Rattle.std.specs.List.{IsAllAdjacentAnswer}
use Rattle.std.specs.Ordering.{is_lt}
use Rattle.mtn_base.specs.Names.{bytes_cmp, same_bytes}
use Rattle.mtn_roster.specs.declared.entry.Attr.{Attr}
use Rattle.std.specs.Prelude.{List}
use Rattle.mtn_base.proofs.Tests.{same_bytes-is, same_bytes-self}
use Rattle.mtn_base.proofs.Orders.{bytes_total, exact_bytes}
use Rattle.mtn_base.proofs.Sorting.{Sorts, sorts}
use Rattle.mtn_roster.proofs.build.sort_attrs.Goals as goal

abbrev lower : Attr → Attr → Bool
lower x y = is_lt (bytes_cmp x.key y.key)

both : (c : goal.After-is_sorted_by) → Sorts bytes_cmp (λ (a : Attr). a.key) bytes_total same_bytes same_bytes-is same_bytes-self exact_bytes c.args.attrs.now.items c.sort_unstable_by.new.self.items c.is_sorted_by.result
both c = sorts bytes_cmp (λ (a : Attr). a.key) bytes_total same_bytes same_bytes-is same_bytes-self exact_bytes c.args.attrs.now.items c.sort_unstable_by.new.self.items c.is_sorted_by.result c.sort_unstable_by.ensures.permutation
    (c.sort_unstable_by.ensures.sorted lower (ranks_by bytes_total (λ (a : Attr). a.key)) (always_returns_same _ _ _ (λ a r g called. (search rules, search rules))))
    (subst (λ (t : List Attr). IsAllAdjacentAnswer (λ x y b. b ≡ lower x y) t c.is_sorted_by.result) c.deref.ensures.value
    (c.is_sorted_by.ensures.cases lower (always_returns_same _ _ _ (λ a r g called. (search rules, search rules)))))

pub returns-clause-apart : goal.returns-clause-apart
returns-clause-apart c = (both c).apart

pub returns-clause-order : goal.returns-clause-order
returns-clause-order c = (both c).order
