-- Both closures compare the names.
use Rattle.std.proofs.Common.{◌≡◌, Bool, rules, subst}
use Rattle.std.proofs.lemmas.Fn.{always_returns_same}
use Rattle.std.proofs.lemmas.List.Sorted.{ranks_by}
use Rattle.std.specs.List.{IsAllAdjacentAnswer}
use Rattle.std.specs.Ordering.{is_lt}
use Rattle.std.specs.Prelude.{List}
use Rattle.mtn_base.specs.Names.{name_cmp, same_name}
use Rattle.mtn_decide.specs.declared.decision.Decision.{Decision}
use Rattle.mtn_base.proofs.Tests.{same_name-is, same_name-self}
use Rattle.mtn_base.proofs.Orders.{names_total, exact_names}
use Rattle.mtn_base.proofs.Sorting.{Sorts, sorts}
use Rattle.mtn_resolve.proofs.over.sort_nodes.Goals as goal

abbrev lower : Decision → Decision → Bool
lower x y = is_lt (name_cmp x.name y.name)

both : (c : goal.After-is_sorted_by) → Sorts name_cmp (λ (d : Decision). d.name) names_total same_name same_name-is same_name-self exact_names c.args.nodes.now.items c.sort_unstable_by.new.self.items c.is_sorted_by.result
both c = sorts name_cmp (λ (d : Decision). d.name) names_total same_name same_name-is same_name-self exact_names c.args.nodes.now.items c.sort_unstable_by.new.self.items c.is_sorted_by.result c.sort_unstable_by.ensures.permutation
    (c.sort_unstable_by.ensures.sorted lower (ranks_by names_total (λ (d : Decision). d.name)) (always_returns_same _ _ _ (λ a r g called. (search rules, search rules))))
    (subst (λ (t : List Decision). IsAllAdjacentAnswer (λ x y b. b ≡ lower x y) t c.is_sorted_by.result) c.deref.ensures.value
    (c.is_sorted_by.ensures.cases lower (always_returns_same _ _ _ (λ a r g called. (search rules, search rules)))))

pub returns-clause-apart : goal.returns-clause-apart
returns-clause-apart c = (both c).apart

pub returns-clause-order : goal.returns-clause-order
returns-clause-order c = (both c).order
