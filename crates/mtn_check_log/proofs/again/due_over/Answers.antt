use Rattle.std.proofs.Common.{sym, ap, ◌∙◌, subst}
use Rattle.std.specs.Prelude.{option_map}
use Rattle.mtn_ports.specs.Kept.{Same, Stays}
use Rattle.mtn_history.specs.Stands.{StandsFor}
use Rattle.mtn_check_log.specs.Below.{below, told_below}
use Rattle.mtn_check_log.proofs.Counting.{told_counted, stays_under}
use Rattle.mtn_check_log.proofs.again.due_over.Goals as goal

pub due_again-result-requires-clause-counted : goal.due_again-result-requires-clause-counted
due_again-result-requires-clause-counted g c κs lasts = told_counted (g.K.Keeper.contents c.new-shown.result) g.N.Behind.count c.args.lent.count c.requires.fits c.requires.count

pub returns-clause-stays : goal.returns-clause-stays
returns-clause-stays g c =
    subst (λ k. Stays g.K.Keeper.contents g.K.Keeper.leaves g.K.Keeper.faults c.args.lent.keeper.now k) (sym c.into_lent.ensures.keeper)
    (stays_under g.K.Keeper.contents g.K.Keeper.leaves g.K.Keeper.faults g.N.Behind.count c.args.lent.keeper.now c.due_again-result.new.keeper
    (subst (λ k. Stays (told_below g.K.Keeper.contents g.N.Behind.count) g.K.Keeper.leaves g.K.Keeper.faults k c.due_again-result.new.keeper) c.new-shown.ensures c.due_again-result.ensures.stays)
    (subst (λ o. Same o (g.K.Keeper.contents c.due_again-result.new.keeper)) c.requires.told c.into_lent.ensures.told))

pub returns-clause-again : goal.returns-clause-again
returns-clause-again g c d s at stands long =
    c.due_again-result.ensures.again (below g.N.Behind.count d) s (ap (option_map (below g.N.Behind.count)) (ap g.K.Keeper.contents (sym c.into_lent.ensures.keeper) ∙ at))
    (subst (λ n. StandsFor (g.I.Ident.meaning c.args.ident.now) (below n d) s) c.requires.count stands) long
