-- The closure compares the numbers.
use Rattle.std.proofs.Common.{◌∙◌, ℕ, Bool, nat_lt, rules, ap}
use Rattle.std.specs.Ordering.{nat_cmp}
use Rattle.std.proofs.lemmas.Fn.{always_returns_same}
use Rattle.mtn_base.specs.Lists.{rises}
use Rattle.mtn_roster_deltas.proofs.Ascending.{up_told, map_same}
use Rattle.mtn_roster_deltas.proofs.order.numbers_ascend.Goals as goal

abbrev lower : ℕ → ℕ → Bool
lower x y = nat_lt x y

pub returns : goal.returns
returns c =
    up_told (λ n. n) c.args.numbers.now c.is_sorted_by.result (c.is_sorted_by.ensures.cases lower (always_returns_same _ _ _ (λ a r g called. (search rules, search rules))))
    ∙ ap (rises nat_cmp) (map_same c.args.numbers.now)
