use Rattle.std.proofs.Common.{◌-◌, subst, arith}
use Rattle.std.specs.Prelude.{IfSome}
use Rattle.mtn_ports.specs.Kept.{with_all}
use Rattle.mtn_ports.proofs.KeptLemmas.{stays_trans}
use Rattle.mtn_history.specs.Errors.{IfDamage}
use Rattle.mtn_history.specs.Logs.{IsHeldAt, IsLogged}
use Rattle.mtn_history.specs.declared.pending.Pending.{Pending}
use Rattle.mtn_history.proofs.Knowing.{told_back}
use Rattle.mtn_put_revision.proofs.Grounds.{unfounded_on, unfit_log, unlogged_found}
use Rattle.mtn_put_revision.proofs.unfit.last_held.Goals as goal

pub returns-in-Ok-clause-stays : goal.returns-in-Ok-clause-stays
returns-in-Ok-clause-stays g c = stays_trans g.K.Keeper.contents g.K.Keeper.leaves g.K.Keeper.faults _ _ _ c.logged.ensures.asks.stays c.log_held.ensures.asks.stays

pub returns-in-Ok-clause-damaged : goal.returns-in-Ok-clause-damaged
returns-in-Ok-clause-damaged g c = λ unfit.
    let old = g.K.Keeper.contents c.args.draft.now.keeper.now in
    let mid = g.K.Keeper.contents c.logged.new.self.keeper.now in
    let told = g.K.Keeper.contents c.log_held.new.self.keeper.now in
    let p = c.args.draft.now.pending in
    let at = c.count.result - 1 in
    unfit_log told p at c.in-Ok.field-0 c.log_held.result (omega (arith, c.count.ensures, c.requires))
    (told_back mid told (λ x. IsLogged (with_all x p.batch) at c.in-Ok.field-0) c.log_held.ensures.asks.stays.same c.in-Ok.ensures.read)
    (unfounded_on mid told p c.log_held.ensures.asks.stays.same (unfounded_on old mid p c.logged.ensures.asks.stays.same unfit))
    (subst (λ (q : Pending). IfSome told (λ x. IfDamage c.log_held.result (IsHeldAt (with_all x q.batch) at))) c.logged.ensures.asks.pending c.log_held.ensures.damaged)

pub returns-in-Err-clause-damaged : goal.returns-in-Err-clause-damaged
returns-in-Err-clause-damaged g c = λ unfit.
    unlogged_found (g.K.Keeper.contents c.logged.new.self.keeper.now) c.args.draft.now.pending (c.count.result - 1) c.in-Err.error (omega (arith, c.count.ensures, c.requires)) c.in-Err.ensures.damaged
