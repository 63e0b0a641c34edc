-- The closure compares the positions, and the positions ascend.
use Rattle.std.proofs.Common.{rules, ◌≡◌, ◌<◌, ◌∙◌, sym, Result, Ok, Err, ℕ, List, true, eqb, map, length, ap, subst}
use Rattle.std.specs.Prelude.{find, slice_get, option_and_then, option_map}
use Rattle.std.specs.List.Sorted.{IsBinarySearchResult, IsSearchInRange}
use Rattle.std.specs.Ordering.{nat_cmp}
use Rattle.std.specs.Result.{result_ok}
use Rattle.std.proofs.lemmas.Fn.{always_returns_same}
use Rattle.mtn_base.specs.Lists.{rises}
use Rattle.mtn_roster.proofs.Along.{got}
use Rattle.mtn_roster_text.specs.declared.table.Named.{Named}
use Rattle.mtn_roster_text.proofs.Tables.{place_in, halved_places}
use Rattle.mtn_roster_text.proofs.table.IdTable.id.Goals as goal

-- what was searched is what the table holds, and that is what contracts see of it
seen_as : (held inside view : List Named) → held ≡ inside → inside ≡ view → rises nat_cmp (map place_in inside) ≡ true → (at : ℕ) (r : Result ℕ ℕ) →
    IsSearchInRange r (length held) → IsBinarySearchResult (λ n. nat_cmp (place_in n) at) held r →
    option_and_then (slice_get held) (result_ok r) ≡ find (λ (n : Named). eqb n.at at) view
seen_as held inside view e f h at r lt is =
    subst (λ (l : List Named). option_and_then (slice_get held) (result_ok r) ≡ find (λ (n : Named). eqb n.at at) l) (e ∙ f)
    (halved_places held (ap (λ (l : List Named). rises nat_cmp (map place_in l)) e ∙ h) at r lt is)

pub returns-in-Ok : goal.returns-in-Ok
returns-in-Ok c =
    let found = seen_as c.deref.result.now c.self.inside.items.items c.args.self.now c.deref.ensures.value c.self.view_is c.self.invariant c.args.at (Ok c.in-Ok.place) c.in-Ok.ensures.bound
    (c.in-Ok.ensures.position (λ (n : Named). nat_cmp n.at c.args.at) (always_returns_same _ _ _ (λ a r g called. (search rules, search rules)))) in
    let there = got c.self.inside.items.items c.in-Ok.place c.index.result.now (subst (λ (l : List Named). c.in-Ok.place < length l) c.deref.ensures.value c.in-Ok.ensures.bound) c.index.ensures in
    ap (option_map (λ (n : Named). n.id)) (sym there ∙ ap (λ (l : List Named). slice_get l c.in-Ok.place) (sym c.deref.ensures.value) ∙ found)

pub returns-in-Err : goal.returns-in-Err
returns-in-Err c =
    let found = seen_as c.deref.result.now c.self.inside.items.items c.args.self.now c.deref.ensures.value c.self.view_is c.self.invariant c.args.at (Err c.in-Err.field-0) c.in-Err.ensures.bound
    (c.in-Err.ensures.position (λ (n : Named). nat_cmp n.at c.args.at) (always_returns_same _ _ _ (λ a r g called. (search rules, search rules)))) in
    ap (option_map (λ (n : Named). n.id)) found
