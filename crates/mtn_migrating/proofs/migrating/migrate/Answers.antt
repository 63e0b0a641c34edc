use Rattle.std.specs.FinMap.{empty}
use Rattle.std.proofs.Common.{Ok, Err, inl, inr, refl, sym, ap, ◌∙◌, subst}
use Rattle.std.proofs.lemmas.Result.{err_from_is_err_and}
use Rattle.mtn_ports.proofs.KeptLemmas.{stays_trans}
use Rattle.mtn_old_stores.specs.Migrating.{bare}
use Rattle.mtn_migrating.specs.Migration.{Declines, Does}
use Rattle.mtn_migrating.proofs.Ending.{ends_older, not_both, puts_beside, untabled_older, untabled_present}
use Rattle.mtn_migrating.proofs.migrating.migrate.Goals as goal

pub returns-in_err-table-clause-older : goal.returns-in_err-table-clause-older
returns-in_err-table-clause-older g c = λ f d s told stands.
    let p = err_from_is_err_and c.from_residual.result c.from_residual.ensures.1 in
    subst (Does f d s c.args.payload.now) (sym (p.1 ∙ ap Err p.2)) (untabled_older f d s c.args.payload.now c.in_err-table.field-0.0 c.in_err-table.ensures.refused)

pub returns-in_err-table-clause-present : goal.returns-in_err-table-clause-present
returns-in_err-table-clause-present g c = λ f d s told stands.
    let p = err_from_is_err_and c.from_residual.result c.from_residual.ensures.1 in
    subst (Declines f s c.args.payload.now) (sym (p.1 ∙ ap Err p.2)) (untabled_present f s c.args.payload.now c.in_err-table.field-0.0 c.in_err-table.ensures.refused)

pub returns-in_err-is_older-clause-older : goal.returns-in_err-is_older-clause-older
returns-in_err-is_older-clause-older g c = λ f d s told stands.
    let p = err_from_is_err_and c.from_residual-in_err-is_older.result c.from_residual-in_err-is_older.ensures.1 in
    subst (Does f d s c.args.payload.now) (sym (p.1 ∙ ap Err p.2)) (c.in_err-is_older.ensures.sound f d s (bare s) told (inl stands))

pub returns-in_err-is_older-clause-present : goal.returns-in_err-is_older-clause-present
returns-in_err-is_older-clause-present g c = λ f d s told stands.
    let p = err_from_is_err_and c.from_residual-in_err-is_older.result c.from_residual-in_err-is_older.ensures.1 in
    subst (Declines f s c.args.payload.now) (sym (p.1 ∙ ap Err p.2)) (c.in_err-is_older.ensures.sound f d (record { files = s.files; log = s.log; certs = empty }) s told (inr stands))

pub returns-then-not-branch-clause-older : goal.returns-then-not-branch-clause-older
returns-then-not-branch-clause-older g c = λ f d s told stands. absurd (not_both c.in_ok-is_older.field-0 (c.in_ok-is_older.ensures.older f d s told stands) c.if-not-branch.true)

pub returns-then-not-branch-clause-present : goal.returns-then-not-branch-clause-present
returns-then-not-branch-clause-present g c = λ f d s told stands. (Ok c.in_ok-table.table.items, c.in_ok-table.ensures.read, refl)

pub returns-in_err-certs-clause-stays : goal.returns-in_err-certs-clause-stays
returns-in_err-certs-clause-stays g c = stays_trans g.K.Keeper.contents g.K.Keeper.leaves g.K.Keeper.faults _ _ _ c.is_older.ensures.stays c.old_certs.ensures.stays

pub returns-in_err-certs-clause-present : goal.returns-in_err-certs-clause-present
returns-in_err-certs-clause-present g c = λ f d s told stands. absurd (not_both c.in_ok-is_older.field-0 c.if-not-branch.false (c.in_ok-is_older.ensures.present f d s (c.old_certs.ensures.stays.same d told) stands))

pub returns-clause-stays : goal.returns-clause-stays
returns-clause-stays g c = stays_trans g.K.Keeper.contents g.K.Keeper.leaves g.K.Keeper.faults _ _ _ c.is_older.ensures.stays c.old_certs.ensures.stays

pub returns-clause-older : goal.returns-clause-older
returns-clause-older g c = λ f d s told stands.
    ends_older f d s c.args.payload.now c.in_ok-table.table.items c.in_ok-certs.certs.items c.in_ok-table.ensures.read c.in_ok-table.ensures.table stands (c.in_ok-certs.ensures.found f d s told stands)
    (c.in_ok-certs.ensures.count f d s told stands) c.deref.result.now c.deref-2.result.now c.migrated.result c.deref.ensures.value c.deref-2.ensures.value c.migrated.ensures.makes c.migrated.ensures.lacking

pub returns-clause-present : goal.returns-clause-present
returns-clause-present g c = λ f d s told stands. absurd (not_both c.in_ok-is_older.field-0 c.if-not-branch.false (c.in_ok-is_older.ensures.present f d s (c.old_certs.ensures.stays.same d told) stands))

pub returns-clause-puts : goal.returns-clause-puts
returns-clause-puts g c = puts_beside c.deref.result.now c.deref-2.result.now c.migrated.result c.migrated.ensures.makes
