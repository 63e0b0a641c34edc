use Rattle.std.proofs.Common.{Err, ap, ◌∙◌}
use Rattle.std.proofs.lemmas.Result.{err_from_is_err_and}
use Rattle.mtn_check_laws.specs.FirstDamage.{IsFirstDamage}
use Rattle.mtn_ports.proofs.KeptLemmas.{stays_trans}
use Rattle.mtn_check.specs.Steps.{IsDamageOfAny}
use Rattle.mtn_check.proofs.Told.{ends_damaged, nothing_yet}
use Rattle.mtn_check.proofs.check.count_of.Goals as goal

pub returns-in_err-count-clause-damaged : goal.returns-in_err-count-clause-damaged
returns-in_err-count-clause-damaged g c =
    let p = err_from_is_err_and c.from_residual.result c.from_residual.ensures.1 in
    let now = g.K.Keeper.contents c.read_count.new.keeper in
    ends_damaged now (λ _. Unit {0}) (λ d x. IsDamageOfAny d x) (λ d x. IsFirstDamage (g.I.Ident.meaning c.args.ident.now) d x) c.in_err-count.field-0.0 c.from_residual.result (p.1 ∙ ap Err p.2) (λ d x u w. w (g.I.Ident.meaning c.args.ident.now)) (nothing_yet now) c.in_err-count.ensures.damaged

pub returns-in_err-check_all-clause-stays : goal.returns-in_err-check_all-clause-stays
returns-in_err-check_all-clause-stays g c = stays_trans g.K.Keeper.contents g.K.Keeper.leaves g.K.Keeper.faults _ _ _ c.read_count.ensures.stays c.check_all.ensures.stays

pub returns-clause-stays : goal.returns-clause-stays
returns-clause-stays g c = stays_trans g.K.Keeper.contents g.K.Keeper.leaves g.K.Keeper.faults _ _ _ c.read_count.ensures.stays c.check_all.ensures.stays
