use Rattle.std.proofs.Common.{Err, ap, ◌∙◌}
use Rattle.std.proofs.lemmas.Result.{err_from_is_err_and}
use Rattle.mtn_check_laws.specs.FirstDamage.{IsBegun, IsCount, IsFirstDamage}
use Rattle.mtn_ports.proofs.KeptLemmas.{if_same, stays_trans}
use Rattle.mtn_check.specs.Steps.{Begins, IsEarlyDamage, IsLateDamage, IsRightBeside, IsWholeOf}
use Rattle.mtn_check.proofs.Told.{all_told, ends_damaged, last_damaged, last_found, with_earlier}
use Rattle.mtn_check.proofs.Whole.{HasFront, HasWalked, IsWalkDamage, early, late, on_walk, walked, whole}
use Rattle.mtn_check.proofs.check.check_all.Goals as goal

pub returns-in_err-check_begun-clause-damaged : goal.returns-in_err-check_begun-clause-damaged
returns-in_err-check_begun-clause-damaged g c =
    let p = err_from_is_err_and c.from_residual.result c.from_residual.ensures.1 in
    let now = g.K.Keeper.contents c.check_begun.new.keeper in
    ends_damaged now (λ d. IsCount d c.args.count) (λ d x. IsEarlyDamage (g.I.Ident.meaning c.args.ident.now) d x) (λ d x. IsFirstDamage (g.I.Ident.meaning c.args.ident.now) d x) c.in_err-check_begun.field-0.0 c.from_residual.result (p.1 ∙ ap Err p.2) (early (g.I.Ident.meaning c.args.ident.now) c.args.count)
    (if_same (g.K.Keeper.contents c.args.keeper.now) now (λ d. IsCount d c.args.count) c.check_begun.ensures.stays.same c.requires.counted) c.in_err-check_begun.ensures.damaged

pub returns-in_err-walk_jobs-clause-stays : goal.returns-in_err-walk_jobs-clause-stays
returns-in_err-walk_jobs-clause-stays g c = stays_trans g.K.Keeper.contents g.K.Keeper.leaves g.K.Keeper.faults _ _ _ c.check_begun.ensures.stays c.walk_jobs.ensures.stays

pub returns-in_err-walk_jobs-clause-damaged : goal.returns-in_err-walk_jobs-clause-damaged
returns-in_err-walk_jobs-clause-damaged g c =
    let p = err_from_is_err_and c.from_residual-in_err-walk_jobs.result c.from_residual-in_err-walk_jobs.ensures.1 in
    let now = g.K.Keeper.contents c.walk_jobs.new.keeper in
    let begun = with_earlier (g.K.Keeper.contents c.args.keeper.now) (g.K.Keeper.contents c.check_begun.new.keeper) (λ d. IsCount d c.args.count) (Begins (g.I.Ident.meaning c.args.ident.now)) (λ d. IsBegun (g.I.Ident.meaning c.args.ident.now) d c.args.count) c.check_begun.ensures.stays.same (λ d x y. y c.args.count x) c.requires.counted c.in_ok-check_begun.ensures.begun in
    ends_damaged now (λ d. IsBegun (g.I.Ident.meaning c.args.ident.now) d c.args.count) (IsWalkDamage (g.I.Ident.meaning c.args.ident.now) c.args.count) (λ d x. IsFirstDamage (g.I.Ident.meaning c.args.ident.now) d x) c.in_err-walk_jobs.field-0.0 c.from_residual-in_err-walk_jobs.result (p.1 ∙ ap Err p.2) (on_walk (g.I.Ident.meaning c.args.ident.now) c.args.count)
    (if_same (g.K.Keeper.contents c.check_begun.new.keeper) now (λ d. IsBegun (g.I.Ident.meaning c.args.ident.now) d c.args.count) c.walk_jobs.ensures.stays.same begun) c.in_err-walk_jobs.ensures.damaged

pub returns-clause-stays : goal.returns-clause-stays
returns-clause-stays g c = stays_trans g.K.Keeper.contents g.K.Keeper.leaves g.K.Keeper.faults _ _ _ (stays_trans g.K.Keeper.contents g.K.Keeper.leaves g.K.Keeper.faults _ _ _ c.check_begun.ensures.stays c.walk_jobs.ensures.stays) c.check_beside.ensures.stays

pub returns-clause-whole : goal.returns-clause-whole
returns-clause-whole g c =
    let now = g.K.Keeper.contents c.check_beside.new.keeper in
    let begun = with_earlier (g.K.Keeper.contents c.args.keeper.now) (g.K.Keeper.contents c.check_begun.new.keeper) (λ d. IsCount d c.args.count) (Begins (g.I.Ident.meaning c.args.ident.now)) (λ d. IsBegun (g.I.Ident.meaning c.args.ident.now) d c.args.count) c.check_begun.ensures.stays.same (λ d x y. y c.args.count x) c.requires.counted c.in_ok-check_begun.ensures.begun in
    let gone = with_earlier (g.K.Keeper.contents c.check_begun.new.keeper) (g.K.Keeper.contents c.walk_jobs.new.keeper) (λ d. IsBegun (g.I.Ident.meaning c.args.ident.now) d c.args.count) (HasFront (g.I.Ident.meaning c.args.ident.now) c.args.count) (HasWalked (g.I.Ident.meaning c.args.ident.now) c.args.count) c.walk_jobs.ensures.stays.same (walked (g.I.Ident.meaning c.args.ident.now) c.args.count) begun c.in_ok-walk_jobs.ensures.walked in
    last_found now (HasWalked (g.I.Ident.meaning c.args.ident.now) c.args.count) (IsRightBeside c.args.count) (λ d. IsWholeOf (g.I.Ident.meaning c.args.ident.now) d c.args.count) c.check_beside.result (whole (g.I.Ident.meaning c.args.ident.now) c.args.count) (if_same (g.K.Keeper.contents c.walk_jobs.new.keeper) now (HasWalked (g.I.Ident.meaning c.args.ident.now) c.args.count) c.check_beside.ensures.stays.same gone) c.check_beside.ensures.right

pub returns-clause-damaged : goal.returns-clause-damaged
returns-clause-damaged g c =
    let now = g.K.Keeper.contents c.check_beside.new.keeper in
    let begun = with_earlier (g.K.Keeper.contents c.args.keeper.now) (g.K.Keeper.contents c.check_begun.new.keeper) (λ d. IsCount d c.args.count) (Begins (g.I.Ident.meaning c.args.ident.now)) (λ d. IsBegun (g.I.Ident.meaning c.args.ident.now) d c.args.count) c.check_begun.ensures.stays.same (λ d x y. y c.args.count x) c.requires.counted c.in_ok-check_begun.ensures.begun in
    let gone = with_earlier (g.K.Keeper.contents c.check_begun.new.keeper) (g.K.Keeper.contents c.walk_jobs.new.keeper) (λ d. IsBegun (g.I.Ident.meaning c.args.ident.now) d c.args.count) (HasFront (g.I.Ident.meaning c.args.ident.now) c.args.count) (HasWalked (g.I.Ident.meaning c.args.ident.now) c.args.count) c.walk_jobs.ensures.stays.same (walked (g.I.Ident.meaning c.args.ident.now) c.args.count) begun c.in_ok-walk_jobs.ensures.walked in
    last_damaged now (HasWalked (g.I.Ident.meaning c.args.ident.now) c.args.count) (λ d x. IsLateDamage c.args.count d x) (λ d x. IsFirstDamage (g.I.Ident.meaning c.args.ident.now) d x) c.check_beside.result (late (g.I.Ident.meaning c.args.ident.now) c.args.count) (if_same (g.K.Keeper.contents c.walk_jobs.new.keeper) now (HasWalked (g.I.Ident.meaning c.args.ident.now) c.args.count) c.check_beside.ensures.stays.same gone) c.check_beside.ensures.damaged

pub walk_jobs-requires-clause-held : goal.walk_jobs-requires-clause-held
walk_jobs-requires-clause-held g c κs within = all_told (g.K.Keeper.contents c.check_begun.new.keeper) (λ k. c.new-tallies.ensures c.args.count k)
