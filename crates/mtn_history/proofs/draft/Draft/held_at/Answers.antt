use Rattle.std.proofs.Common.{◌≢◌, Err, refl, sym, ap, ◌∙◌, subst}
use Rattle.std.proofs.lemmas.Result.{err_from_is_err_and}
use Rattle.mtn_history.proofs.MarkedLemmas.{unplaced_damage, as_error}
use Rattle.mtn_history.proofs.draft.Draft.held_at.Goals as goal

pub returns-in_err-at-clause-damaged : goal.returns-in_err-at-clause-damaged
returns-in_err-at-clause-damaged g c =
    let p = err_from_is_err_and c.from_residual.result c.from_residual.ensures.1 in
    as_error (g.K.Keeper.contents c.placed.new.self.keeper.now) c.args.self.now.pending c.from_residual.result c.in_err-at.field-0.0 (p.1 ∙ ap Err p.2)
    (unplaced_damage (g.K.Keeper.contents c.placed.new.self.keeper.now) c.args.self.now.pending c.in_err-at.field-0.0 (subst (λ n. n ≢ 0) c.count.ensures c.if-count-eq0.false) c.in_err-at.ensures.damaged)

pub returns-in-Some-clause-found : goal.returns-in-Some-clause-found
returns-in-Some-clause-found g c f s d = sym (c.in_ok-at.ensures.found f s d).0 ∙ c.in-Some.is

pub returns-clause-found : goal.returns-clause-found
returns-clause-found g c f s d = (refl, sym (c.in_ok-at.ensures.found f s d).0 ∙ c.in-None.is)
