-- Key by key.
use Rattle.std.proofs.Common.{◌≡◌, ◌<◌, length, Some, refl, sym, ◌∙◌, ap, subst}
use Rattle.std.proofs.lemmas.Option.{slice_get-get_or}
use Rattle.mtn_marking.proofs.Telling.{key_in, same_key}
use Rattle.mtn_marking.proofs.Fitting.{keys_more, keys_all, equal_by, unequal_by}
use Rattle.mtn_marking.proofs.fits.have_same_keys.Goals as goal

pub returns-then-ne : goal.returns-then-ne
returns-then-ne c = (
  λ t. absurd cc,
  λ h. absurd (
      let i = c.loop-place.place in
      let a = c.index-attrs-place.result in
      let m = c.index-marks-place.result in
      let lm : i < length c.args.marks.now = subst (λ n. i < n) c.if-attrs-marks.false c.loop-place-test.true in
      let e : m.key ≡ a.key = same_key c.args.attrs.now c.args.marks.now h i a m
      (slice_get-get_or c.args.attrs.now i a c.loop-place-test.true ∙ ap Some (sym c.index-attrs-place.is)) (slice_get-get_or c.args.marks.now i m lm ∙ ap Some (sym c.index-marks-place.is)) in
      unequal_by c.as_slice.result.now c.as_slice-in-loop-place.result.now c.ne.result c.ne.ensures c.if-ne.true
      (c.as_slice.ensures ∙ sym e ∙ ap key_in c.index-marks-place.is ∙ sym c.as_slice-in-loop-place.ensures)),
)

pub loop-place-preserved : goal.loop-place-preserved
loop-place-preserved c =
    let i = c.loop-place.place in
    let lm : i < length c.args.marks.now = subst (λ n. i < n) c.if-attrs-marks.false c.loop-place-test.true in
    keys_more c.args.attrs.now c.args.marks.now i c.index-attrs-place.result c.index-marks-place.result c.loop-place-test.true lm c.index-attrs-place.is c.index-marks-place.is
    (sym c.as_slice.ensures ∙ equal_by c.as_slice.result.now c.as_slice-in-loop-place.result.now c.ne.result c.ne.ensures c.if-ne.false
    ∙ c.as_slice-in-loop-place.ensures ∙ ap key_in (sym c.index-marks-place.is))
    c.loop-place.invariant

pub returns : goal.returns
returns c = (λ t. keys_all c.args.attrs.now c.args.marks.now c.loop-place.place c.if-attrs-marks.false c.loop-place-test.false c.loop-place.invariant, λ h. refl)
