-- One node more each time.
use Rattle.std.proofs.Common.{◌≡◌, ◌∙◌, ◌<◌, ◌+◌, [], ◌∷◌, Some, length, sym, ap, subst, arith, length-append}
use Rattle.std.specs.Prelude.{slice_get}
use Rattle.std.specs.Option.{option_copied}
use Rattle.mtn_base.proofs.Members.{taken}
use Rattle.mtn_marking.specs.Parts.{IsForBoth}
use Rattle.mtn_marking.proofs.Fitting.{for_long, for_each}
use Rattle.mtn_roster_deltas.proofs.Places.{numbered_more, some_lent}
use Rattle.mtn_roster_deltas.proofs.numbering.numbered_entries.Goals as goal

pub unwrap-node-requires : goal.unwrap-node-requires
unwrap-node-requires c =
    let lt : c.loop-place.place < length c.args.roster.now.marks = omega (arith, c.loop-place-test.true, c.requires, for_long c.args.roster.now.tree c.args.roster.now.marks c.roster-tree.ensures.fits) in
    let m = taken c.args.roster.now.marks c.loop-place.place lt in
    some_lent c.at_place-in-loop-place.result m.0 (c.at_place-in-loop-place.ensures ∙ ap (λ l. slice_get l c.loop-place.place) c.marks-marks.ensures ∙ m.1)

pub numbered_entry-requires-clause-fits : goal.numbered_entry-requires-clause-fits
numbered_entry-requires-clause-fits c =
    let t = c.args.roster.now.tree in
    let ms = c.args.roster.now.marks in
    let k = c.loop-place.place in
    let at_n : slice_get t k ≡ Some c.unwrap-entry.result.now = ap (λ l. slice_get l k) (sym c.roster-tree.ensures.tree) ∙ sym c.at_place.ensures ∙ ap option_copied c.unwrap-entry.ensures in
    let at_m : slice_get ms k ≡ Some c.unwrap-node.result.now = ap (λ l. slice_get l k) (sym c.marks-marks.ensures) ∙ sym c.at_place-in-loop-place.ensures ∙ ap option_copied c.unwrap-node.ensures in
    subst (λ o. IsForBoth (Some c.unwrap-entry.result.now) o) at_m
    (subst (λ o. IsForBoth o (slice_get ms k)) at_n (for_each t ms c.roster-tree.ensures.fits k (omega (arith, c.loop-place-test.true, c.requires))))

pub loop-place-preserved : goal.loop-place-preserved
loop-place-preserved c =
    let t = c.args.roster.now.tree in
    let ms = c.args.roster.now.marks in
    let k = c.loop-place.place in
    let at_n : slice_get t k ≡ Some c.unwrap-entry.result.now = ap (λ l. slice_get l k) (sym c.roster-tree.ensures.tree) ∙ sym c.at_place.ensures ∙ ap option_copied c.unwrap-entry.ensures in
    let at_m : slice_get ms k ≡ Some c.unwrap-node.result.now = ap (λ l. slice_get l k) (sym c.marks-marks.ensures) ∙ sym c.at_place-in-loop-place.ensures ∙ ap option_copied c.unwrap-node.ensures in (
      ap length c.in_ok-push.ensures.items ∙ length-append c.loop-place.entries.items (c.in_ok-numbered_entry.field-0 ∷ []) ∙ ap (λ n. n + 1) c.loop-place.invariant.0,
      numbered_more c.args.roster.now c.args.numbers.now c.loop-place.entries.items c.push.new.self.items k c.unwrap-entry.result.now c.unwrap-node.result.now c.in_ok-numbered_entry.field-0
          c.loop-place.invariant.0 c.loop-place.invariant.1 at_n at_m c.in_ok-numbered_entry.ensures c.in_ok-push.ensures.items,
    )
