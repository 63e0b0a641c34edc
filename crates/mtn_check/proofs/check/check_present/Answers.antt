use Rattle.std.proofs.Common.{◌≡◌, length}
use Rattle.mtn_model.specs.State.{State}
use Rattle.mtn_history.specs.Damage.{IsShown}
use Rattle.mtn_history.specs.Errors.{IfDamage}
use Rattle.mtn_history.specs.Stands.{Stands}
use Rattle.mtn_store_laws.specs.Spelled.{spelled}
use Rattle.mtn_check_laws.specs.FirstDamage.{IsFirstDamage}
use Rattle.mtn_check.specs.Steps.{Counts}
use Rattle.mtn_check.proofs.Told.{each_told, if_damage}
use Rattle.mtn_check.proofs.Whole.{is_clean, number_of}
use Rattle.mtn_check.proofs.check.check_present.Goals as goal

pub returns-in-Ok-clause-clean : goal.returns-in-Ok-clause-clean
returns-in-Ok-clause-clean g c =
    let f = g.I.Ident.meaning c.args.ident.now in
    let n = c.in-Ok.count in
    each_told (g.K.Keeper.contents c.count_of.new.keeper) (λ d. Counts f d n) (λ d. (s : State) × Stands f d s × (n ≡ length s.log))
    (λ d x. let stands = c.no_damage_stands.ensures.stands f d (is_clean f d n x) in (spelled d, stands, number_of f d (spelled d) n x stands)) c.in-Ok.ensures.clean

pub returns-in-Err-clause-damaged : goal.returns-in-Err-clause-damaged
returns-in-Err-clause-damaged g c =
    let f = g.I.Ident.meaning c.args.ident.now in
    let e = c.in-Err.error in
    each_told (g.K.Keeper.contents c.count_of.new.keeper) (λ d. IfDamage e (IsFirstDamage f d)) (λ d. IfDamage e (λ x. IsFirstDamage f d x × IsShown d x))
    (λ d w. if_damage e (IsFirstDamage f d) (λ x. IsFirstDamage f d x × IsShown d x) (λ x y. (y, c.standing_has_no_damage.ensures.shown f d x y)) w) c.in-Err.ensures.damaged
