-- Place by place.
use Rattle.std.proofs.Common.{refl, sym, ◌∙◌, arith}
use Rattle.mtn_marking.proofs.Fitting.{for_long, for_each, for_all}
use Rattle.mtn_marking.proofs.fits.are_for.Goals as goal

pub returns-then-count-len : goal.returns-then-count-len
returns-then-count-len c =
    (λ t. absurd cc, λ h. absurd (c.if-count-len.true (c.len-count.ensures.count ∙ for_long c.args.roster.now c.args.marks.now h ∙ sym c.len.ensures.count)))

pub returns-then-not-is_for_at : goal.returns-then-not-is_for_at
returns-then-not-is_for_at c = (
  λ t. absurd cc,
  λ h. absurd (let a = c.is_for_at.ensures.1 (for_each c.args.roster.now c.args.marks.now h c.loop-place.place (omega (arith, c.loop-place-test.true, c.len-count.ensures.count))) in let b = c.if-not-is_for_at.true in cc),
)

pub returns : goal.returns
returns c = (
  λ t. for_all c.args.roster.now c.args.marks.now (sym c.len-count.ensures.count ∙ c.if-count-len.false ∙ c.len.ensures.count)
      (λ k lt. c.loop-place.invariant k (omega (arith, lt, c.loop-place-test.false, c.len-count.ensures.count))),
  λ h. refl,
)
