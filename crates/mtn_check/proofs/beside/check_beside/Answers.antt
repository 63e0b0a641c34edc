use Rattle.std.proofs.Common.{Err, ap, ◌∙◌}
use Rattle.std.proofs.lemmas.Result.{err_from_is_err_and}
use Rattle.mtn_ports.proofs.KeptLemmas.{if_same, stays_trans}
use Rattle.mtn_check.specs.Steps.{ArePlaced, IsCertIn, IsLateDamage, IsRightBeside, IsUnplaced, NameRule}
use Rattle.mtn_check.specs.Tables.{AllIn, IsBreakIn}
use Rattle.mtn_check.proofs.Early.{keep_in}
use Rattle.mtn_check.proofs.Late.{HasNames, cert_damage, name_damage, place_damage, right}
use Rattle.mtn_check.proofs.Told.{ends_damaged, last_damaged, last_found, nothing_yet, with_earlier}
use Rattle.mtn_check.proofs.beside.check_beside.Goals as goal

pub returns-in_err-check_places-clause-damaged : goal.returns-in_err-check_places-clause-damaged
returns-in_err-check_places-clause-damaged g c =
    let p = err_from_is_err_and c.from_residual.result c.from_residual.ensures.1 in
    let now = g.K.Keeper.contents c.check_places.new.keeper in
    ends_damaged now (λ _. Unit {0}) (λ d x. IsUnplaced c.args.count d x) (λ d x. IsLateDamage c.args.count d x) c.in_err-check_places.field-0.0 c.from_residual.result (p.1 ∙ ap Err p.2) (place_damage c.walk_stands.ensures c.args.count) (nothing_yet now) c.in_err-check_places.ensures.damaged

pub returns-in_err-check_table-clause-stays : goal.returns-in_err-check_table-clause-stays
returns-in_err-check_table-clause-stays g c = stays_trans g.K.Keeper.contents g.K.Keeper.leaves g.K.Keeper.faults _ _ _ c.check_places.ensures.stays c.check_table.ensures.stays

pub returns-in_err-check_table-clause-damaged : goal.returns-in_err-check_table-clause-damaged
returns-in_err-check_table-clause-damaged g c =
    let p = err_from_is_err_and c.from_residual-in_err-check_table.result c.from_residual-in_err-check_table.ensures.1 in
    let now = g.K.Keeper.contents c.check_table.new.keeper in
    ends_damaged now (ArePlaced c.args.count) (λ d x. IsBreakIn 7 NameRule d x) (λ d x. IsLateDamage c.args.count d x) c.in_err-check_table.field-0.0 c.from_residual-in_err-check_table.result (p.1 ∙ ap Err p.2) (name_damage c.walk_stands.ensures c.args.count)
    (if_same (g.K.Keeper.contents c.check_places.new.keeper) now (ArePlaced c.args.count) c.check_table.ensures.stays.same c.in_ok-check_places.ensures.placed) c.in_err-check_table.ensures.damaged

pub returns-clause-stays : goal.returns-clause-stays
returns-clause-stays g c = stays_trans g.K.Keeper.contents g.K.Keeper.leaves g.K.Keeper.faults _ _ _ (stays_trans g.K.Keeper.contents g.K.Keeper.leaves g.K.Keeper.faults _ _ _ c.check_places.ensures.stays c.check_table.ensures.stays) c.check_table-2.ensures.stays

pub returns-clause-right : goal.returns-clause-right
returns-clause-right g c =
    let now = g.K.Keeper.contents c.check_table-2.new.keeper in
    let names = with_earlier (g.K.Keeper.contents c.check_places.new.keeper) (g.K.Keeper.contents c.check_table.new.keeper) (ArePlaced c.args.count) (AllIn 7 NameRule) (HasNames c.args.count) c.check_table.ensures.stays.same (λ d x y. (x, keep_in 7 NameRule d y)) c.in_ok-check_places.ensures.placed c.in_ok-check_table.ensures.kept in
    last_found now (HasNames c.args.count) (λ d. AllIn 8 (IsCertIn d) d) (IsRightBeside c.args.count) c.check_table-2.result (right c.walk_stands.ensures c.args.count) (if_same (g.K.Keeper.contents c.check_table.new.keeper) now (HasNames c.args.count) c.check_table-2.ensures.stays.same names) c.check_table-2.ensures.kept

pub returns-clause-damaged : goal.returns-clause-damaged
returns-clause-damaged g c =
    let now = g.K.Keeper.contents c.check_table-2.new.keeper in
    let names = with_earlier (g.K.Keeper.contents c.check_places.new.keeper) (g.K.Keeper.contents c.check_table.new.keeper) (ArePlaced c.args.count) (AllIn 7 NameRule) (HasNames c.args.count) c.check_table.ensures.stays.same (λ d x y. (x, keep_in 7 NameRule d y)) c.in_ok-check_places.ensures.placed c.in_ok-check_table.ensures.kept in
    last_damaged now (HasNames c.args.count) (λ d x. IsBreakIn 8 (IsCertIn d) d x) (λ d x. IsLateDamage c.args.count d x) c.check_table-2.result (cert_damage c.walk_stands.ensures c.args.count) (if_same (g.K.Keeper.contents c.check_table.new.keeper) now (HasNames c.args.count) c.check_table-2.ensures.stays.same names) c.check_table-2.ensures.damaged
