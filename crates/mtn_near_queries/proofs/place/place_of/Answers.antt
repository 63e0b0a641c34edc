use Rattle.std.specs.Prelude.{IfSome}
use Rattle.std.proofs.Common.{◌<◌, Err, refl, sym, ap, ◌∙◌, subst}
use Rattle.std.proofs.lemmas.Result.{err_from_is_err_and}
use Rattle.mtn_history.proofs.MarkedLemmas.{as_error}
use Rattle.mtn_near_queries.proofs.Damages.{unplaced_damage}
use Rattle.mtn_near_queries.proofs.place.place_of.Goals as goal

pub returns-in_err-at-clause-damaged : goal.returns-in_err-at-clause-damaged
returns-in_err-at-clause-damaged g c =
    let p = err_from_is_err_and c.from_residual.result c.from_residual.ensures.1 in
    let told = g.K.Keeper.contents c.placed.new.self.keeper.now in
    as_error told c.args.draft.now.pending c.from_residual.result c.in_err-at.field-0.0 (p.1 ∙ ap Err p.2)
    (unplaced_damage told c.args.draft.now.pending c.in_err-at.field-0.0 c.in_err-at.ensures.damaged)

pub returns-in-Some-clause-found : goal.returns-in-Some-clause-found
returns-in-Some-clause-found g c f s d = sym (c.in_ok-at.ensures.found f s d).0 ∙ c.in-Some.is

pub returns-in-Some-clause-below : goal.returns-in-Some-clause-below
returns-in-Some-clause-below g c = subst (λ o. IfSome o (λ r. r < c.args.draft.now.pending.count)) c.in-Some.is c.in_ok-at.ensures.below

pub returns-clause-found : goal.returns-clause-found
returns-clause-found g c f s d = (refl, sym (c.in_ok-at.ensures.found f s d).0 ∙ c.in-None.is)
