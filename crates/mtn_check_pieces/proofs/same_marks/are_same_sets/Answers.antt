-- Position by position.
use Rattle.std.proofs.Common.{◌∙◌, sym}
use Rattle.std.proofs.lemmas.Bool.{eqb-true, eq-eqb}
use Rattle.std.specs.Cmp.Lexicographic.{pointwise_decides}
use Rattle.mtn_check_pieces.proofs.Listing.{one_set}
use Rattle.mtn_check_pieces.proofs.same_marks.are_same_sets.Goals as goal

pub returns-clause-equal : goal.returns-clause-equal
returns-clause-equal c =
    let d = pointwise_decides (λ a b. (λ h. eqb-true a b h, λ e. eq-eqb a b e)) c.as_slice.result.now c.as_slice-2.result.now in
    λ t. sym c.as_slice.ensures.value ∙ d.0 (sym c.eq.ensures ∙ t) ∙ c.as_slice-2.ensures.value

pub returns-clause-alike : goal.returns-clause-alike
returns-clause-alike c =
    let d = pointwise_decides (λ a b. (λ h. eqb-true a b h, λ e. eq-eqb a b e)) c.as_slice.result.now c.as_slice-2.result.now in
    λ same. c.eq.ensures ∙ d.1 (c.as_slice.ensures.value ∙ one_set c.args.first.now c.args.second.now c.as_slice.ensures.ascending c.as_slice-2.ensures.ascending same ∙ sym c.as_slice-2.ensures.value)
