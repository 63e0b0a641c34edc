use Rattle.std.proofs.Common.{Err, ap, ◌∙◌}
use Rattle.std.proofs.lemmas.Result.{err_from_is_err_and}
use Rattle.mtn_ports.proofs.KeptLemmas.{if_same, stays_trans}
use Rattle.mtn_check.specs.Steps.{ArePlaced, IsTextOf, IsUnplaced, PlaceRule}
use Rattle.mtn_check.specs.Tables.{IsBreakIn, IsFewOrKept}
use Rattle.mtn_check.proofs.Late.{HasLog, HasTexts, are_placed, log_damage, roster_damage, text_damage}
use Rattle.mtn_check.proofs.Told.{ends_damaged, last_damaged, last_found, nothing_yet, with_earlier}
use Rattle.mtn_check.proofs.places.check_places.Goals as goal

pub returns-in_err-check_more-clause-damaged : goal.returns-in_err-check_more-clause-damaged
returns-in_err-check_more-clause-damaged g c =
    let p = err_from_is_err_and c.from_residual.result c.from_residual.ensures.1 in
    let now = g.K.Keeper.contents c.check_more.new.keeper in
    ends_damaged now (λ _. Unit {0}) (λ d x. IsBreakIn 3 (IsTextOf d c.args.count) d x) (λ d x. IsUnplaced c.args.count d x) c.in_err-check_more.field-0.0 c.from_residual.result (p.1 ∙ ap Err p.2) (text_damage c.walk_stands.ensures c.args.count) (nothing_yet now) c.in_err-check_more.ensures.damaged

pub returns-in_err-check_more-2-clause-stays : goal.returns-in_err-check_more-2-clause-stays
returns-in_err-check_more-2-clause-stays g c = stays_trans g.K.Keeper.contents g.K.Keeper.leaves g.K.Keeper.faults _ _ _ c.check_more.ensures.stays c.check_more-2.ensures.stays

pub returns-in_err-check_more-2-clause-damaged : goal.returns-in_err-check_more-2-clause-damaged
returns-in_err-check_more-2-clause-damaged g c =
    let p = err_from_is_err_and c.from_residual-in_err-check_more-2.result c.from_residual-in_err-check_more-2.ensures.1 in
    let now = g.K.Keeper.contents c.check_more-2.new.keeper in
    ends_damaged now (HasTexts c.args.count) (λ d x. IsBreakIn 4 (PlaceRule c.args.count) d x) (λ d x. IsUnplaced c.args.count d x) c.in_err-check_more-2.field-0.0 c.from_residual-in_err-check_more-2.result (p.1 ∙ ap Err p.2) (log_damage c.walk_stands.ensures c.args.count)
    (if_same (g.K.Keeper.contents c.check_more.new.keeper) now (HasTexts c.args.count) c.check_more-2.ensures.stays.same c.in_ok-check_more.ensures.kept) c.in_err-check_more-2.ensures.damaged

pub returns-clause-stays : goal.returns-clause-stays
returns-clause-stays g c = stays_trans g.K.Keeper.contents g.K.Keeper.leaves g.K.Keeper.faults _ _ _ (stays_trans g.K.Keeper.contents g.K.Keeper.leaves g.K.Keeper.faults _ _ _ c.check_more.ensures.stays c.check_more-2.ensures.stays) c.check_more-3.ensures.stays

pub returns-clause-placed : goal.returns-clause-placed
returns-clause-placed g c =
    let now = g.K.Keeper.contents c.check_more-3.new.keeper in
    let texts = c.in_ok-check_more.ensures.kept in
    let log = with_earlier (g.K.Keeper.contents c.check_more.new.keeper) (g.K.Keeper.contents c.check_more-2.new.keeper) (HasTexts c.args.count) (IsFewOrKept 4 c.args.count (PlaceRule c.args.count)) (HasLog c.args.count) c.check_more-2.ensures.stays.same (λ d x y. (x, y)) texts c.in_ok-check_more-2.ensures.kept in
    last_found now (HasLog c.args.count) (IsFewOrKept 5 c.args.count (PlaceRule c.args.count)) (ArePlaced c.args.count) c.check_more-3.result (are_placed c.walk_stands.ensures c.args.count) (if_same (g.K.Keeper.contents c.check_more-2.new.keeper) now (HasLog c.args.count) c.check_more-3.ensures.stays.same log) c.check_more-3.ensures.kept

pub returns-clause-damaged : goal.returns-clause-damaged
returns-clause-damaged g c =
    let now = g.K.Keeper.contents c.check_more-3.new.keeper in
    let texts = c.in_ok-check_more.ensures.kept in
    let log = with_earlier (g.K.Keeper.contents c.check_more.new.keeper) (g.K.Keeper.contents c.check_more-2.new.keeper) (HasTexts c.args.count) (IsFewOrKept 4 c.args.count (PlaceRule c.args.count)) (HasLog c.args.count) c.check_more-2.ensures.stays.same (λ d x y. (x, y)) texts c.in_ok-check_more-2.ensures.kept in
    last_damaged now (HasLog c.args.count) (λ d x. IsBreakIn 5 (PlaceRule c.args.count) d x) (λ d x. IsUnplaced c.args.count d x) c.check_more-3.result (roster_damage c.walk_stands.ensures c.args.count) (if_same (g.K.Keeper.contents c.check_more-2.new.keeper) now (HasLog c.args.count) c.check_more-3.ensures.stays.same log) c.check_more-3.ensures.damaged
