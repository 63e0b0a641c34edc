use Rattle.std.proofs.Common.{◌≡◌, List, Bor, rules, subst}
use Rattle.std.specs.List.{IsAllAdjacentAnswer}
use Rattle.std.proofs.lemmas.Fn.{always_returns_same}
use Rattle.mtn_changes.specs.declared.change.Change.{Change}
use Rattle.mtn_changes.proofs.Ascending.{lower, apart_by}
use Rattle.mtn_changes.proofs.apart.are_apart.Goals as goal

pub returns : goal.returns
returns c is =
    apart_by c.in_ok-refs.refs.items c.sort_by.new.self.items c.args.changes.now c.is_sorted_by.result c.in_ok-refs.ensures c.in_ok-sort_by.ensures.permutation
    (subst (λ (t : List (Bor Change)). IsAllAdjacentAnswer (λ x y b. b ≡ lower x y) t c.is_sorted_by.result) c.deref.ensures.value (c.is_sorted_by.ensures.cases lower (always_returns_same _ _ _ (λ a r g called. (search rules, search rules)))))
    is
