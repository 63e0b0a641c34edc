-- The closure compares the keys.
use Rattle.std.specs.Prelude.{map}
use Rattle.std.specs.List.{IsAllAdjacentAnswer}
use Rattle.std.specs.Ordering.{is_lt}
use Rattle.std.proofs.Common.{◌≡◌, Bool, true, false, List, rules}
use Rattle.std.proofs.lemmas.Fn.{always_returns_same}
use Rattle.mtn_base.specs.Lists.{rises}
use Rattle.mtn_base.specs.Names.{bytes_cmp}
use Rattle.mtn_base.proofs.Orders.{bytes_total}
use Rattle.mtn_base.proofs.Sorting.{rising_by}
use Rattle.mtn_decide.specs.declared.decision.AttrDecision.{AttrDecision}
use Rattle.mtn_cases_merges.proofs.made.keys_ascend.Goals as goal

abbrev lower : AttrDecision → AttrDecision → Bool
lower x y = is_lt (bytes_cmp x.key y.key)

told : (ks : List AttrDecision) (r : Bool) → IsAllAdjacentAnswer (λ x y b. b ≡ lower x y) ks r → r ≡ true → rises bytes_cmp (map (λ (a : AttrDecision). a.key) ks) ≡ true
told ks true h t = rising_by bytes_cmp (λ (a : AttrDecision). a.key) bytes_total ks h
told ks false h t = absurd cc

pub returns : goal.returns
returns c = told c.args.attrs.now c.is_sorted_by.result (c.is_sorted_by.ensures.cases lower (always_returns_same _ _ _ (λ a r g called. (search rules, search rules))))
