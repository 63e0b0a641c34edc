-- The positions that were read are those of any set that is there.
use Rattle.std.proofs.Common.{length, ◌∙◌, ◌<◌, ℕ, sym, subst, List}
use Rattle.std.specs.List.Sorted.{IsStrictlyIncreasing}
use Rattle.mtn_records.proofs.Reading.{set_is}
use Rattle.mtn_records.proofs.lists.PosSetField.read.Goals as goal

pub returns-then-not-make_set-clause-bad : goal.returns-then-not-make_set-clause-bad
returns-then-not-make_set-clause-bad c is v r set e =
    let same = c.deref.ensures.value ∙ set_is c.args.bytes.now c.in-Some.rest.now c.in_ok-positions.rest.now c.in-Some.count c.in_ok-positions.positions.items c.in-Some.ensures c.in_ok-positions.ensures.ok v r set e in
    let some = subst (λ (ps : List ℕ). 0 < length ps) (sym same) set.some in
    let up = subst IsStrictlyIncreasing (sym same) set.ascending in
    let made = c.make_set.ensures.1 (some, up) in
    absurd (cc (made, c.if-not-make_set.true))
