use Rattle.std.proofs.Common.{sym, ap, ◌∙◌, subst}
use Rattle.std.specs.Prelude.{option_map}
use Rattle.mtn_ports.specs.Kept.{Same, Stays}
use Rattle.mtn_check_log.specs.Below.{below, told_below}
use Rattle.mtn_check_log.proofs.Counting.{told_counted, stays_under}
use Rattle.mtn_check_hands.proofs.Answering.{OverState}
use Rattle.mtn_check_hands.proofs.below.answer_lent.Goals as goal

pub answer_over-result-requires : goal.answer_over-result-requires
answer_over-result-requires g c = record { counted = told_counted (g.K.Keeper.contents c.new-shown.result) g.N.Behind.count c.args.lent.count c.requires.fits c.requires.count }

pub returns-clause-stays : goal.returns-clause-stays
returns-clause-stays g c =
    subst (λ k. Stays g.K.Keeper.contents g.K.Keeper.leaves g.K.Keeper.faults c.args.lent.keeper.now k) (sym c.into_lent.ensures.keeper)
    (stays_under g.K.Keeper.contents g.K.Keeper.leaves g.K.Keeper.faults g.N.Behind.count c.args.lent.keeper.now c.answer_over-result.new.keeper
    (subst (λ k. Stays (told_below g.K.Keeper.contents g.N.Behind.count) g.K.Keeper.leaves g.K.Keeper.faults k c.answer_over-result.new.keeper) c.new-shown.ensures c.answer_over-result.ensures.stays)
    (subst (λ o. Same o (g.K.Keeper.contents c.answer_over-result.new.keeper)) c.requires.told c.into_lent.ensures.told))

pub returns-clause-found : goal.returns-clause-found
returns-clause-found g c =
    subst (λ n. OverState (g.K.Keeper.contents c.into_lent.result.keeper.now) n c.args.asked c.answer_over-result.result) (sym c.requires.count)
    (λ f d s stands at long. c.answer_over-result.ensures.found f (below g.N.Behind.count d) s stands (ap (option_map (below g.N.Behind.count)) (ap g.K.Keeper.contents (sym c.into_lent.ensures.keeper) ∙ at)) (c.requires.count ∙ long))
