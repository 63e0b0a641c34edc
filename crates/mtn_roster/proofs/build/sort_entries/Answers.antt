-- The closures compare the names.
use Rattle.std.proofs.Common.{◌≡◌, Bool, true, Ok, Err, rules, sym}
use Rattle.std.specs.Prelude.{Result, OnOk, is_ok}
use Rattle.std.proofs.lemmas.Fn.{always_returns_same}
use Rattle.std.proofs.lemmas.List.Sorted.{ranks_by}
use Rattle.std.specs.Ordering.{is_lt}
use Rattle.mtn_base.specs.Names.{name_cmp}
use Rattle.mtn_roster.specs.declared.entry.Entry.{Entry}
use Rattle.mtn_base.proofs.Orders.{names_total}
use Rattle.mtn_roster.proofs.build.sort_entries.Goals as goal

abbrev lower : Entry → Entry → Bool
lower x y = is_lt (name_cmp x.name y.name)

at_ok : {T E : Type 0} (r : Result T E) (P : Type 0) → is_ok r ≡ true → OnOk r P → P
at_ok (Ok x) P h g = g
at_ok (Err e) P h g = absurd cc

pub returns-then-is_ok-clause-sorted : goal.returns-then-is_ok-clause-sorted
returns-then-is_ok-clause-sorted c =
    at_ok c.sort_by.result _ (sym c.if-is_ok.ensures.value) c.sort_by.ensures.sorted lower (ranks_by names_total (λ (e : Entry). e.name)) (always_returns_same _ _ _ (λ a r g called. (search rules, search rules)))

pub returns-clause-sorted : goal.returns-clause-sorted
returns-clause-sorted c = c.sort_unstable_by.ensures.sorted lower (ranks_by names_total (λ (e : Entry). e.name)) (always_returns_same _ _ _ (λ a r g called. (search rules, search rules)))
