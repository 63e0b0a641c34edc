use Rattle.std.proofs.Common.{Err, ap, subst}
use Rattle.mtn_commands.specs.declared.error.CommandError.{CommandError}
use Rattle.mtn_cli.proofs.MigrateLemmas.{made, not_made}
use Rattle.mtn_cli.specs.Store.{IsTold}
use Rattle.mtn_cli.proofs.migrate.migrate_store.Goals as goal

pub returns-in-Ok : goal.returns-in-Ok
returns-in-Ok g c = λ f.
    made f g.K.Keeper.contents g.K.Keeper.leaves g.K.Keeper.faults g.K.Keeper.reads c.args.keeper.now c.migrate.new.keeper c.args.payload.now c.in-Ok.ensures.stays c.in-Ok.done (c.in-Ok.ensures.older f) (c.in-Ok.ensures.present f) c.in-Ok.ensures.puts

pub returns-in-Err : goal.returns-in-Err
returns-in-Err g c = λ f.
    not_made f g.K.Keeper.contents g.K.Keeper.leaves g.K.Keeper.faults g.K.Keeper.reads c.args.keeper.now c.migrate.new.keeper c.args.payload.now c.in-Err.ensures.stays c.in-Err.error c.tell.result (subst (λ (e : CommandError). IsTold e c.tell.result) c.whole.ensures c.tell.ensures)
    (c.in-Err.ensures.older f) (c.in-Err.ensures.present f) (λ e. c.in-Err.ensures.failed (ap Err e)) c.in-Err.ensures.damaged
