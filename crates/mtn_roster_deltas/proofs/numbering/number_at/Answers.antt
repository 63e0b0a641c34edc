-- A name stands at one place.
use Rattle.std.proofs.Common.{◌∙◌, Some, length, refl, ap, get_or, arith}
use Rattle.std.specs.Prelude.{option_map, slice_get}
use Rattle.mtn_roster.specs.declared.entry.Entry.{Entry}
use Rattle.mtn_marking.proofs.Fitting.{for_long}
use Rattle.mtn_roster_deltas.proofs.Places.{marked_names, get_map, names_apart, place_is, place_none}
use Rattle.mtn_roster_deltas.proofs.Visiting.{same_names}
use Rattle.mtn_roster_deltas.proofs.numbering.number_at.Goals as goal

pub bounds-numbers-place : goal.bounds-numbers-place
bounds-numbers-place c =
    omega (arith, c.in-Some.ensures.within, ap length c.marks-marks.ensures, for_long c.args.roster.now.tree c.args.roster.now.marks c.roster-fits.ensures.fits, c.requires)

pub offset_bounds-numbers-place : goal.offset_bounds-numbers-place
offset_bounds-numbers-place c =
    omega (arith, c.in-Some.ensures.within, ap length c.marks-marks.ensures, for_long c.args.roster.now.tree c.args.roster.now.marks c.roster-fits.ensures.fits, c.requires)

pub returns-in-None : goal.returns-in-None
returns-in-None c = λ k e at named. absurd (
    let same = ap marked_names c.marks-marks.ensures ∙ same_names c.args.roster.now.tree c.args.roster.now.marks c.roster-fits.ensures.fits in
    place_none c.marks-marks.result.now c.args.node.now c.in-None.ensures.node k c.args.node.now
    (ap (λ l. slice_get l k) same ∙ get_map (λ (x : Entry). x.name) c.args.roster.now.tree k ∙ ap (option_map (λ (x : Entry). x.name)) at ∙ ap Some named) refl)

pub returns-in-Some : goal.returns-in-Some
returns-in-Some c = λ k e at named.
    let same = ap marked_names c.marks-marks.ensures ∙ same_names c.args.roster.now.tree c.args.roster.now.marks c.roster-fits.ensures.fits in
    ap (λ i. get_or c.args.numbers.now i 0) (names_apart (marked_names c.marks-marks.result.now) c.len-rising.ensures.rising c.in-Some.place k c.args.node.now
    (place_is c.marks-marks.result.now c.in-Some.place c.args.node.now c.in-Some.ensures.within c.in-Some.ensures.node)
    (ap (λ l. slice_get l k) same ∙ get_map (λ (x : Entry). x.name) c.args.roster.now.tree k ∙ ap (option_map (λ (x : Entry). x.name)) at ∙ ap Some named))
