use Rattle.std.proofs.Common.{Err, ap, ◌∙◌}
use Rattle.std.proofs.lemmas.Result.{err_from_is_err_and}
use Rattle.mtn_history.specs.Meta.{VersionDamage}
use Rattle.mtn_check_laws.specs.FirstDamage.{IsUsed}
use Rattle.mtn_check_laws.specs.Records.{AllKeep, IsFirstBreak}
use Rattle.mtn_ports.proofs.KeptLemmas.{if_same, stays_trans}
use Rattle.mtn_check.specs.Steps.{Begins, FileRule, IsEarlyDamage, MetaRule}
use Rattle.mtn_check.specs.Tables.{AllIn, IsBreakIn}
use Rattle.mtn_check.proofs.Early.{HasMeta, HasUses, HasVersion, begun, file_damage, keep_in, meta_damage, used_damage, version_damage}
use Rattle.mtn_check.proofs.Told.{ends_damaged, last_damaged, last_found, nothing_yet, with_earlier}
use Rattle.mtn_check.proofs.begun.check_begun.Goals as goal

pub returns-in_err-check_version-clause-damaged : goal.returns-in_err-check_version-clause-damaged
returns-in_err-check_version-clause-damaged g c =
    let p = err_from_is_err_and c.from_residual.result c.from_residual.ensures.1 in
    let now = g.K.Keeper.contents c.check_version.new.keeper in
    ends_damaged now (λ _. Unit {0}) (λ d x. VersionDamage d x) (λ d x. IsEarlyDamage (g.I.Ident.meaning c.args.ident.now) d x) c.in_err-check_version.field-0.0 c.from_residual.result (p.1 ∙ ap Err p.2) (version_damage (g.I.Ident.meaning c.args.ident.now)) (nothing_yet now) c.in_err-check_version.ensures.damaged

pub returns-in_err-check_table-clause-stays : goal.returns-in_err-check_table-clause-stays
returns-in_err-check_table-clause-stays g c = stays_trans g.K.Keeper.contents g.K.Keeper.leaves g.K.Keeper.faults _ _ _ c.check_version.ensures.stays c.check_table.ensures.stays

pub returns-in_err-check_table-clause-damaged : goal.returns-in_err-check_table-clause-damaged
returns-in_err-check_table-clause-damaged g c =
    let p = err_from_is_err_and c.from_residual-in_err-check_table.result c.from_residual-in_err-check_table.ensures.1 in
    let now = g.K.Keeper.contents c.check_table.new.keeper in
    ends_damaged now HasVersion (λ d x. IsBreakIn 1 MetaRule d x) (λ d x. IsEarlyDamage (g.I.Ident.meaning c.args.ident.now) d x) c.in_err-check_table.field-0.0 c.from_residual-in_err-check_table.result (p.1 ∙ ap Err p.2) (meta_damage (g.I.Ident.meaning c.args.ident.now))
    (if_same (g.K.Keeper.contents c.check_version.new.keeper) now HasVersion c.check_table.ensures.stays.same c.in_ok-check_version.ensures.version) c.in_err-check_table.ensures.damaged

pub returns-in_err-check_unused-clause-stays : goal.returns-in_err-check_unused-clause-stays
returns-in_err-check_unused-clause-stays g c = stays_trans g.K.Keeper.contents g.K.Keeper.leaves g.K.Keeper.faults _ _ _ (stays_trans g.K.Keeper.contents g.K.Keeper.leaves g.K.Keeper.faults _ _ _ c.check_version.ensures.stays c.check_table.ensures.stays) c.check_unused.ensures.stays

pub returns-in_err-check_unused-clause-damaged : goal.returns-in_err-check_unused-clause-damaged
returns-in_err-check_unused-clause-damaged g c =
    let p = err_from_is_err_and c.from_residual-in_err-check_unused.result c.from_residual-in_err-check_unused.ensures.1 in
    let now = g.K.Keeper.contents c.check_unused.new.keeper in
    let meta = with_earlier (g.K.Keeper.contents c.check_version.new.keeper) (g.K.Keeper.contents c.check_table.new.keeper) HasVersion (AllIn 1 MetaRule) HasMeta c.check_table.ensures.stays.same (λ d x y. (x, keep_in 1 MetaRule d y)) c.in_ok-check_version.ensures.version c.in_ok-check_table.ensures.kept in
    ends_damaged now HasMeta (λ d x. IsFirstBreak IsUsed d x) (λ d x. IsEarlyDamage (g.I.Ident.meaning c.args.ident.now) d x) c.in_err-check_unused.field-0.0 c.from_residual-in_err-check_unused.result (p.1 ∙ ap Err p.2) (used_damage (g.I.Ident.meaning c.args.ident.now))
    (if_same (g.K.Keeper.contents c.check_table.new.keeper) now HasMeta c.check_unused.ensures.stays.same meta) c.in_err-check_unused.ensures.damaged

pub returns-clause-stays : goal.returns-clause-stays
returns-clause-stays g c = stays_trans g.K.Keeper.contents g.K.Keeper.leaves g.K.Keeper.faults _ _ _ (stays_trans g.K.Keeper.contents g.K.Keeper.leaves g.K.Keeper.faults _ _ _ (stays_trans g.K.Keeper.contents g.K.Keeper.leaves g.K.Keeper.faults _ _ _ c.check_version.ensures.stays c.check_table.ensures.stays) c.check_unused.ensures.stays) c.check_table-2.ensures.stays

pub returns-clause-begun : goal.returns-clause-begun
returns-clause-begun g c =
    let now = g.K.Keeper.contents c.check_table-2.new.keeper in
    let meta = with_earlier (g.K.Keeper.contents c.check_version.new.keeper) (g.K.Keeper.contents c.check_table.new.keeper) HasVersion (AllIn 1 MetaRule) HasMeta c.check_table.ensures.stays.same (λ d x y. (x, keep_in 1 MetaRule d y)) c.in_ok-check_version.ensures.version c.in_ok-check_table.ensures.kept in
    let uses = with_earlier (g.K.Keeper.contents c.check_table.new.keeper) (g.K.Keeper.contents c.check_unused.new.keeper) HasMeta (AllKeep IsUsed) HasUses c.check_unused.ensures.stays.same (λ d x y. (x, y)) meta c.in_ok-check_unused.ensures.used in
    last_found now HasUses (AllIn 2 (FileRule (g.I.Ident.meaning c.args.ident.now))) (Begins (g.I.Ident.meaning c.args.ident.now)) c.check_table-2.result (begun (g.I.Ident.meaning c.args.ident.now)) (if_same (g.K.Keeper.contents c.check_unused.new.keeper) now HasUses c.check_table-2.ensures.stays.same uses) c.check_table-2.ensures.kept

pub returns-clause-damaged : goal.returns-clause-damaged
returns-clause-damaged g c =
    let now = g.K.Keeper.contents c.check_table-2.new.keeper in
    let meta = with_earlier (g.K.Keeper.contents c.check_version.new.keeper) (g.K.Keeper.contents c.check_table.new.keeper) HasVersion (AllIn 1 MetaRule) HasMeta c.check_table.ensures.stays.same (λ d x y. (x, keep_in 1 MetaRule d y)) c.in_ok-check_version.ensures.version c.in_ok-check_table.ensures.kept in
    let uses = with_earlier (g.K.Keeper.contents c.check_table.new.keeper) (g.K.Keeper.contents c.check_unused.new.keeper) HasMeta (AllKeep IsUsed) HasUses c.check_unused.ensures.stays.same (λ d x y. (x, y)) meta c.in_ok-check_unused.ensures.used in
    last_damaged now HasUses (λ d x. IsBreakIn 2 (FileRule (g.I.Ident.meaning c.args.ident.now)) d x) (λ d x. IsEarlyDamage (g.I.Ident.meaning c.args.ident.now) d x) c.check_table-2.result (file_damage (g.I.Ident.meaning c.args.ident.now)) (if_same (g.K.Keeper.contents c.check_unused.new.keeper) now HasUses c.check_table-2.ensures.stays.same uses) c.check_table-2.ensures.damaged
