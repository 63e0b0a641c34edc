use Rattle.std.proofs.Common.{Err, ap, ◌∙◌}
use Rattle.std.proofs.lemmas.Result.{err_from_is_err_and}
use Rattle.mtn_ports.proofs.KeptLemmas.{if_same, stays_trans}
use Rattle.mtn_check.specs.Steps.{IsDamageOfAny}
use Rattle.mtn_check.specs.Tables.{IsFirstOf}
use Rattle.mtn_check.proofs.Early.{HasNoCount, new_damage, no_count, nothing_held}
use Rattle.mtn_check.proofs.Told.{ends_damaged}
use Rattle.mtn_check.proofs.meta.read_count.Goals as goal

pub returns-in_err-check_empty-clause-stays : goal.returns-in_err-check_empty-clause-stays
returns-in_err-check_empty-clause-stays g c = stays_trans g.K.Keeper.contents g.K.Keeper.leaves g.K.Keeper.faults _ _ _ c.get.ensures.stays c.check_empty.ensures.stays

pub returns-in_err-check_empty-clause-damaged : goal.returns-in_err-check_empty-clause-damaged
returns-in_err-check_empty-clause-damaged g c =
    let p = err_from_is_err_and c.from_residual-in_err-check_empty.result c.from_residual-in_err-check_empty.ensures.1 in
    let before = g.K.Keeper.contents c.get.new.self in
    let now = g.K.Keeper.contents c.check_empty.new.keeper in
    ends_damaged now HasNoCount (λ d x. IsFirstOf 0 256 d x) (λ d x. IsDamageOfAny d x) c.in_err-check_empty.field-0.0 c.from_residual-in_err-check_empty.result (p.1 ∙ ap Err p.2) (λ d x none w f. new_damage d x none w f)
    (if_same before now HasNoCount c.check_empty.ensures.stays.same (no_count before c.in_ok-get.field-0 c.get.new.out.items c.if-not-branch.true c.in_ok-get.ensures.found)) c.in_err-check_empty.ensures.damaged

pub returns-then-not-branch-clause-stays : goal.returns-then-not-branch-clause-stays
returns-then-not-branch-clause-stays g c = stays_trans g.K.Keeper.contents g.K.Keeper.leaves g.K.Keeper.faults _ _ _ c.get.ensures.stays c.check_empty.ensures.stays

pub returns-then-not-branch-clause-counted : goal.returns-then-not-branch-clause-counted
returns-then-not-branch-clause-counted g c =
    let before = g.K.Keeper.contents c.get.new.self in
    let now = g.K.Keeper.contents c.check_empty.new.keeper in
    nothing_held now (if_same before now HasNoCount c.check_empty.ensures.stays.same (no_count before c.in_ok-get.field-0 c.get.new.out.items c.if-not-branch.true c.in_ok-get.ensures.found)) c.in_ok-check_empty.ensures.keyed c.in_ok-check_empty.ensures.empty
