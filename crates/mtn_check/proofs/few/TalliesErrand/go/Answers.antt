use Rattle.std.proofs.Common.{sym, subst}
use Rattle.mtn_ports.proofs.KeptLemmas.{stays_trans}
use Rattle.mtn_check.specs.Tables.{AreTallied}
use Rattle.mtn_check.proofs.Counting.{all_tallied}
use Rattle.mtn_check.proofs.Told.{all_told}
use Rattle.mtn_check.proofs.few.TalliesErrand.go.Goals as goal

pub returns-in_err-texts-clause-held : goal.returns-in_err-texts-clause-held
returns-in_err-texts-clause-held g c = all_told (g.K.Keeper.contents c.further.new.keeper) (λ k. subst (AreTallied c.args.count k) (sym c.replace-texts.ensures.after) (c.new.ensures c.args.count k))

pub returns-in_err-log-clause-stays : goal.returns-in_err-log-clause-stays
returns-in_err-log-clause-stays g c = stays_trans g.K.Keeper.contents g.K.Keeper.leaves g.K.Keeper.faults _ _ _ c.further.ensures.stays c.further-2.ensures.stays

pub returns-in_err-log-clause-held : goal.returns-in_err-log-clause-held
returns-in_err-log-clause-held g c = all_told (g.K.Keeper.contents c.further-2.new.keeper) (λ k. subst (AreTallied c.args.count k) (sym c.replace-texts.ensures.after) (c.new.ensures c.args.count k))

pub returns-in_err-rosters-clause-stays : goal.returns-in_err-rosters-clause-stays
returns-in_err-rosters-clause-stays g c = stays_trans g.K.Keeper.contents g.K.Keeper.leaves g.K.Keeper.faults _ _ _ (stays_trans g.K.Keeper.contents g.K.Keeper.leaves g.K.Keeper.faults _ _ _ c.further.ensures.stays c.further-2.ensures.stays) c.further-3.ensures.stays

pub returns-in_err-rosters-clause-held : goal.returns-in_err-rosters-clause-held
returns-in_err-rosters-clause-held g c = all_told (g.K.Keeper.contents c.further-3.new.keeper) (λ k. subst (AreTallied c.args.count k) (sym c.replace-texts.ensures.after) (c.new.ensures c.args.count k))

pub returns-clause-stays : goal.returns-clause-stays
returns-clause-stays g c = stays_trans g.K.Keeper.contents g.K.Keeper.leaves g.K.Keeper.faults _ _ _ (stays_trans g.K.Keeper.contents g.K.Keeper.leaves g.K.Keeper.faults _ _ _ c.further.ensures.stays c.further-2.ensures.stays) c.further-3.ensures.stays

pub returns-clause-held : goal.returns-clause-held
returns-clause-held g c =
    all_tallied c.args.count (g.K.Keeper.contents c.further.new.keeper) (g.K.Keeper.contents c.further-2.new.keeper) (g.K.Keeper.contents c.further-3.new.keeper) c.further-2.ensures.stays.same c.further-3.ensures.stays.same
    (record { texts = c.in_ok-texts.texts; log = c.in_ok-log.log; rosters = c.in_ok-rosters.rosters }) c.in_ok-texts.ensures.tally c.in_ok-log.ensures.tally c.in_ok-rosters.ensures.tally
