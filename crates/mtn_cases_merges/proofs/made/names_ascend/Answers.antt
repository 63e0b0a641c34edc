-- The closure compares the names.
use Rattle.std.specs.Prelude.{map}
use Rattle.std.specs.List.{IsAllAdjacentAnswer}
use Rattle.std.specs.Ordering.{is_lt}
use Rattle.std.proofs.Common.{◌≡◌, Bool, true, false, List, rules}
use Rattle.std.proofs.lemmas.Fn.{always_returns_same}
use Rattle.mtn_base.specs.Lists.{rises}
use Rattle.mtn_base.specs.Names.{name_cmp}
use Rattle.mtn_base.proofs.Orders.{names_total}
use Rattle.mtn_base.proofs.Sorting.{rising_by}
use Rattle.mtn_decide.specs.declared.decision.Decision.{Decision}
use Rattle.mtn_cases_merges.proofs.made.names_ascend.Goals as goal

abbrev lower : Decision → Decision → Bool
lower x y = is_lt (name_cmp x.name y.name)

told : (ks : List Decision) (r : Bool) → IsAllAdjacentAnswer (λ x y b. b ≡ lower x y) ks r → r ≡ true → rises name_cmp (map (λ (d : Decision). d.name) ks) ≡ true
told ks true h t = rising_by name_cmp (λ (d : Decision). d.name) names_total ks h
told ks false h t = absurd cc

pub returns : goal.returns
returns c = told c.args.nodes.now c.is_sorted_by.result (c.is_sorted_by.ensures.cases lower (always_returns_same _ _ _ (λ a r g called. (search rules, search rules))))
