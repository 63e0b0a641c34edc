-- Position by position.
use Rattle.std.proofs.Common.{◌∙◌, sym}
use Rattle.std.proofs.lemmas.Bool.{eqb-true, eq-eqb}
use Rattle.std.specs.Cmp.Lexicographic.{pointwise_decides}
use Rattle.mtn_roster_deltas.proofs.same.are_same_sets.Goals as goal

pub returns : goal.returns
returns c =
    let d = pointwise_decides (λ a b. (λ h. eqb-true a b h, λ e. eq-eqb a b e)) c.as_slice.result.now c.as_slice-2.result.now in
    (λ t. sym c.as_slice.ensures.value ∙ d.0 (sym c.eq.ensures ∙ t) ∙ c.as_slice-2.ensures.value, λ e. c.eq.ensures ∙ d.1 (c.as_slice.ensures.value ∙ e ∙ sym c.as_slice-2.ensures.value))
