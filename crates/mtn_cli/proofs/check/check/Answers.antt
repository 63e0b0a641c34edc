use Rattle.std.proofs.Common.{Err, ap, subst}
use Rattle.mtn_commands.specs.declared.error.CommandError.{CommandError}
use Rattle.mtn_cli.proofs.CheckLemmas.{found_error, found_none, unsound}
use Rattle.mtn_cli.specs.Store.{IsTold}
use Rattle.mtn_cli.proofs.check.check.Goals as goal

pub returns-in_ok-sound-in-Ok : goal.returns-in_ok-sound-in-Ok
returns-in_ok-sound-in-Ok g c =
    found_none (g.I.Ident.meaning c.args.ident.now) g.K.Keeper.contents g.K.Keeper.leaves g.K.Keeper.faults g.K.Keeper.reads c.args.keeper.now c.check_store.new.keeper c.in-Ok.ensures.stays
    (λ k s t a b. c.one_state.ensures.one (g.I.Ident.meaning c.args.ident.now) k s t a b) c.in-Ok.count c.in_ok-sound-in-Ok.field-0 c.in-Ok.ensures.clean c.in_ok-sound-in-Ok.ensures.0 c.in_ok-sound-in-Ok.ensures.1

pub returns-in-Err : goal.returns-in-Err
returns-in-Err g c =
    found_error (g.I.Ident.meaning c.args.ident.now) g.K.Keeper.contents g.K.Keeper.leaves g.K.Keeper.faults g.K.Keeper.reads c.args.keeper.now c.check_store.new.keeper c.in-Err.ensures.stays
    (λ k s d a b. c.standing_has_no_damage.ensures.never (g.I.Ident.meaning c.args.ident.now) k s d a b) c.in-Err.error c.tell.result (subst (λ (e : CommandError). IsTold e c.tell.result) c.whole.ensures c.tell.ensures)
    (unsound (g.I.Ident.meaning c.args.ident.now) (g.K.Keeper.contents c.check_store.new.keeper) c.in-Err.error c.in-Err.ensures.form c.in-Err.ensures.damaged) (λ e. c.in-Err.ensures.failed (ap Err e))
