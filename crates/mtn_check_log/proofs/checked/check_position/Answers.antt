use Rattle.std.proofs.Common.{sym, ap, ◌∙◌, subst, Err}
use Rattle.std.specs.Prelude.{IfErr, IfSome}
use Rattle.std.proofs.lemmas.Result.{err_from_is_err_and}
use Rattle.mtn_ports.proofs.KeptLemmas.{stays_trans}
use Rattle.mtn_check_log.proofs.Told.{AreWrong, told_untold}
use Rattle.mtn_check_log.proofs.checked.check_position.Goals as goal

pub returns-in_err-body-clause-stays : goal.returns-in_err-body-clause-stays
returns-in_err-body-clause-stays g c = stays_trans g.K.Keeper.contents g.K.Keeper.leaves g.K.Keeper.faults _ _ _ c.in_ok-entry.ensures.stays c.in_err-body.ensures.stays

pub returns-in_err-body-clause-wrong : goal.returns-in_err-body-clause-wrong
returns-in_err-body-clause-wrong g c =
    let p = err_from_is_err_and c.from_residual-in_err-body.result c.from_residual-in_err-body.ensures.1 in
    subst (λ o. IfSome (g.K.Keeper.contents c.record_of.new.keeper) (λ k. IfErr o (λ e. AreWrong (g.I.Ident.meaning c.args.ident.now) c.args.at e k))) (sym (p.1 ∙ ap Err p.2))
    (told_untold (g.I.Ident.meaning c.args.ident.now) (g.K.Keeper.contents c.entry_at.new.keeper) (g.K.Keeper.contents c.record_of.new.keeper) c.args.at c.in_ok-entry.entry.record c.in_ok-entry.entry.body.items c.in_err-body.field-0.0
    c.in_err-body.ensures.stays.same c.in_ok-entry.ensures.found c.in_err-body.ensures.damaged)

pub returns-clause-stays : goal.returns-clause-stays
returns-clause-stays g c = stays_trans g.K.Keeper.contents g.K.Keeper.leaves g.K.Keeper.faults _ _ _ (stays_trans g.K.Keeper.contents g.K.Keeper.leaves g.K.Keeper.faults _ _ _ c.in_ok-entry.ensures.stays c.in_ok-body.ensures.stays) c.check_record.ensures.stays
