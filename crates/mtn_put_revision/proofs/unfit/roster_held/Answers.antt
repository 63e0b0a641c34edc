use Rattle.std.proofs.Common.{subst}
use Rattle.std.specs.Prelude.{IfSome}
use Rattle.mtn_ports.specs.Kept.{with_all}
use Rattle.mtn_ports.proofs.KeptLemmas.{stays_trans}
use Rattle.mtn_history.specs.Errors.{IfDamage}
use Rattle.mtn_history.specs.Rosters.{IsRosterHeld, IsRosterThere}
use Rattle.mtn_history.specs.declared.pending.Pending.{Pending}
use Rattle.mtn_history.proofs.Knowing.{told_back}
use Rattle.mtn_history.proofs.MarkedLemmas.{is_there}
use Rattle.mtn_put_revision.proofs.Grounds.{unfounded_on, unfit_roster, unmade_found}
use Rattle.mtn_put_revision.proofs.unfit.roster_held.Goals as goal

pub returns-in-Ok-clause-stays : goal.returns-in-Ok-clause-stays
returns-in-Ok-clause-stays g c = stays_trans g.K.Keeper.contents g.K.Keeper.leaves g.K.Keeper.faults _ _ _ c.roster_at.ensures.asks.stays c.roster_held.ensures.asks.stays

pub returns-in-Ok-clause-damaged : goal.returns-in-Ok-clause-damaged
returns-in-Ok-clause-damaged g c = λ unfit.
    let old = g.K.Keeper.contents c.args.draft.now.keeper.now in
    let mid = g.K.Keeper.contents c.roster_at.new.self.keeper.now in
    let told = g.K.Keeper.contents c.roster_held.new.self.keeper.now in
    let p = c.args.draft.now.pending in
    unfit_roster told p c.args.at c.roster_held.result c.requires.below
    (told_back mid told (λ x. IsRosterThere (with_all x p.batch) c.args.at) c.roster_held.ensures.asks.stays.same (is_there mid p c.args.at c.in-Ok.field-0.value c.in-Ok.ensures.rebuilt))
    (unfounded_on mid told p c.roster_held.ensures.asks.stays.same (unfounded_on old mid p c.roster_at.ensures.asks.stays.same unfit))
    (subst (λ (q : Pending). IfSome told (λ x. IfDamage c.roster_held.result (IsRosterHeld (with_all x q.batch) c.args.at))) c.roster_at.ensures.asks.pending c.roster_held.ensures.damaged)

pub returns-clause-damaged : goal.returns-clause-damaged
returns-clause-damaged g c = λ unfit.
    unmade_found (g.K.Keeper.contents c.roster_at.new.self.keeper.now) c.args.draft.now.pending c.args.at c.in-Err.error c.requires.below c.in-Err.ensures.damaged
