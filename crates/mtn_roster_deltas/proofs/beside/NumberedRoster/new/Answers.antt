-- The numbers are noted of the entries.
use Rattle.std.proofs.Common.{◌∙◌, length, sym, ap}
use Rattle.std.proofs.lemmas.List.{append-nil}
use Rattle.mtn_marking.proofs.Fitting.{for_long}
use Rattle.mtn_roster_deltas.specs.Numbering.{all_of, shown}
use Rattle.mtn_roster_deltas.proofs.Numbers.{noted_of, they_stand, they_tell}
use Rattle.mtn_roster_deltas.proofs.Places.{marked_names}
use Rattle.mtn_roster_deltas.proofs.Visiting.{same_names}
use Rattle.mtn_roster_deltas.proofs.beside.NumberedRoster.new.Goals as goal

pub invariant_of-result : goal.invariant_of-result
invariant_of-result c =
    let t = c.args.roster in
    let es = c.args.entries.now in
    let ns = c.in_ok-numbers.numbers.items in
    they_stand es t c.requires ns (c.in_ok-numbers.ensures.long ∙ ap length c.marks.ensures ∙ sym (for_long t.tree t.marks c.roster-fits.ensures.fits))
    (noted_of es t c.requires (all_of (shown c.as_slice.result.now)) (marked_names c.marks.result.now) ns (ap (λ bs. all_of (shown bs)) c.as_slice.ensures ∙ append-nil es)
    (ap marked_names c.marks.ensures ∙ same_names t.tree t.marks c.roster-fits.ensures.fits) c.in_ok-numbers.ensures.noted)

pub returns : goal.returns
returns c =
    let t = c.args.roster in
    let es = c.args.entries.now in
    let ns = c.in_ok-numbers.numbers.items in
    let told = they_tell es t c.requires ns (c.in_ok-numbers.ensures.long ∙ ap length c.marks.ensures ∙ sym (for_long t.tree t.marks c.roster-fits.ensures.fits))
    (noted_of es t c.requires (all_of (shown c.as_slice.result.now)) (marked_names c.marks.result.now) ns (ap (λ bs. all_of (shown bs)) c.as_slice.ensures ∙ append-nil es)
    (ap marked_names c.marks.ensures ∙ same_names t.tree t.marks c.roster-fits.ensures.fits) c.in_ok-numbers.ensures.noted) in
    λ i. record { entries = told i; roster = t }
