use Rattle.std.proofs.Common.{Err, ap, ◌∙◌}
use Rattle.std.proofs.lemmas.Result.{err_from_is_err_and}
use Rattle.mtn_check_laws.specs.FirstDamage.{IsUsed}
use Rattle.mtn_check_laws.specs.Records.{AllKeep, IsFirstBreak}
use Rattle.mtn_ports.specs.Kept.{AreKeyed}
use Rattle.mtn_ports.proofs.KeptLemmas.{if_same, stays_trans}
use Rattle.mtn_check.specs.Tables.{AreEmpty, IsFirstOf}
use Rattle.mtn_check.proofs.Early.{all_used, high_breaks, low_breaks}
use Rattle.mtn_check.proofs.Told.{each_both, ends_damaged, last_damaged, last_found, nothing_yet}
use Rattle.mtn_check.proofs.begun.check_unused.Goals as goal

pub returns-clause-stays : goal.returns-clause-stays
returns-clause-stays g c = stays_trans g.K.Keeper.contents g.K.Keeper.leaves g.K.Keeper.faults _ _ _ c.check_empty.ensures.stays c.check_empty-2.ensures.stays

pub returns-in_err-check_empty-clause-damaged : goal.returns-in_err-check_empty-clause-damaged
returns-in_err-check_empty-clause-damaged g c =
    let p = err_from_is_err_and c.from_residual.result c.from_residual.ensures.1 in
    let now = g.K.Keeper.contents c.check_empty.new.keeper in
    ends_damaged now (λ _. Unit {0}) (λ d x. IsFirstOf 0 1 d x) (λ d x. IsFirstBreak IsUsed d x) c.in_err-check_empty.field-0.0 c.from_residual.result (p.1 ∙ ap Err p.2) (λ d x u w. low_breaks d x w) (nothing_yet now) c.in_err-check_empty.ensures.damaged

pub returns-clause-used : goal.returns-clause-used
returns-clause-used g c =
    let before = g.K.Keeper.contents c.check_empty.new.keeper in
    let now = g.K.Keeper.contents c.check_empty-2.new.keeper in
    let so_far = each_both before AreKeyed (AreEmpty 0 1) (λ d. AreKeyed d × AreEmpty 0 1 d) (λ d x y. (x, y)) c.in_ok-check_empty.ensures.keyed c.in_ok-check_empty.ensures.empty in
    last_found now (λ d. AreKeyed d × AreEmpty 0 1 d) (AreEmpty 9 256) (AllKeep IsUsed) c.check_empty-2.result (λ d x y. all_used d x.0 x.1 y) (if_same before now (λ d. AreKeyed d × AreEmpty 0 1 d) c.check_empty-2.ensures.stays.same so_far) c.check_empty-2.ensures.empty

pub returns-clause-damaged : goal.returns-clause-damaged
returns-clause-damaged g c =
    let before = g.K.Keeper.contents c.check_empty.new.keeper in
    let now = g.K.Keeper.contents c.check_empty-2.new.keeper in
    last_damaged now (AreEmpty 0 1) (λ d x. IsFirstOf 9 256 d x) (λ d x. IsFirstBreak IsUsed d x) c.check_empty-2.result (λ d x low w. high_breaks d x low w) (if_same before now (AreEmpty 0 1) c.check_empty-2.ensures.stays.same c.in_ok-check_empty.ensures.empty) c.check_empty-2.ensures.damaged
