use Rattle.std.proofs.Common.{Err, ap, ◌∙◌}
use Rattle.std.proofs.lemmas.Result.{err_from_is_err_and}
use Rattle.mtn_ports.proofs.KeptLemmas.{stays_trans}
use Rattle.mtn_check_log.proofs.Untold.{earlier_untold, found_record, missing_untold}
use Rattle.mtn_check_log.proofs.entry.record_of.Goals as goal

pub returns-in_err-body-clause-damaged : goal.returns-in_err-body-clause-damaged
returns-in_err-body-clause-damaged g c =
    let p = err_from_is_err_and c.from_residual.result c.from_residual.ensures.1 in
    missing_untold (g.K.Keeper.contents c.held_record.new.keeper) c.args.at c.args.entry.now.record.id.0 c.args.entry.now.body.items c.from_residual.result c.in_err-body.field-0.0 (p.1 ∙ ap Err p.2)
    (rw c.as_slice-id.ensures at c.in_err-body.ensures.damaged)

pub returns-in_err-refuse_earlier-clause-stays : goal.returns-in_err-refuse_earlier-clause-stays
returns-in_err-refuse_earlier-clause-stays g c = stays_trans g.K.Keeper.contents g.K.Keeper.leaves g.K.Keeper.faults _ _ _ c.held_record.ensures.stays c.refuse_earlier.ensures.stays

pub returns-in_err-refuse_earlier-clause-damaged : goal.returns-in_err-refuse_earlier-clause-damaged
returns-in_err-refuse_earlier-clause-damaged g c =
    let p = err_from_is_err_and c.from_residual-in_err-refuse_earlier.result c.from_residual-in_err-refuse_earlier.ensures.1 in
    earlier_untold (g.K.Keeper.contents c.held_record.new.keeper) (g.K.Keeper.contents c.refuse_earlier.new.keeper) c.args.at c.args.entry.now.record.id.0 c.args.entry.now.body.items
    c.in_ok-body.body.items c.from_residual-in_err-refuse_earlier.result c.in_err-refuse_earlier.field-0.0 (p.1 ∙ ap Err p.2) c.refuse_earlier.ensures.stays.same
    (rw c.as_slice-id.ensures at c.in_ok-body.ensures.found) (rw c.deref.ensures.value at c.in_err-refuse_earlier.ensures.damaged)

pub returns-clause-stays : goal.returns-clause-stays
returns-clause-stays g c = stays_trans g.K.Keeper.contents g.K.Keeper.leaves g.K.Keeper.faults _ _ _ c.held_record.ensures.stays c.refuse_earlier.ensures.stays

pub returns-clause-found : goal.returns-clause-found
returns-clause-found g c =
    found_record (g.K.Keeper.contents c.held_record.new.keeper) (g.K.Keeper.contents c.refuse_earlier.new.keeper) c.args.at c.args.entry.now.record.id.0 c.in_ok-body.body.items
    c.refuse_earlier.ensures.stays.same (rw c.as_slice-id.ensures at c.in_ok-body.ensures.found) (rw c.deref.ensures.value at c.in_ok-refuse_earlier.ensures.fresh)
