use Rattle.std.specs.Prelude.{option_copied, IfErr, IfSome}
use Rattle.std.proofs.Common.{Result, ◌∙◌, Err, sym, ap, subst}
use Rattle.std.proofs.lemmas.Result.{err_from_is_err_and}
use Rattle.mtn_merge.specs.Given.{GivesResolutions}
use Rattle.mtn_merge.specs.Plans.{Gives, MergesText, outcomes}
use Rattle.mtn_history.specs.Damage.{IsDamage}
use Rattle.mtn_history.specs.Errors.{IfStoreDamage}
use Rattle.mtn_history.specs.Marked.{IsCounted}
use Rattle.mtn_history.specs.declared.errors.HistoryError.{HistoryError}
use Rattle.mtn_ports.specs.Kept.{with_all}
use Rattle.mtn_merge.specs.declared.answer.Planned.{Planned}
use Rattle.mtn_merge.proofs.Plans.{given_lawful, given_merges, given_refused, given_told}
use Rattle.mtn_merge.proofs.planning.plan_with.Goals as goal

pub returns-in-Ok-clause-merges : goal.returns-in-Ok-clause-merges
returns-in-Ok-clause-merges g c = λ s d.
    let text = option_copied c.args.text in
    given_merges (g.I.Ident.meaning c.args.ident.now) s.files d.stands.history c.args.a c.args.b text c.in-Ok.resolutions (subst (GivesResolutions text) c.in-Ok.is c.given.ensures) (outcomes c.plan.result) (c.plan.ensures.plans s d)

pub returns-in_err-tell_sides-in-Err-clause-merges : goal.returns-in_err-tell_sides-in-Err-clause-merges
returns-in_err-tell_sides-in-Err-clause-merges g c = λ s d.
    let f = g.I.Ident.meaning c.args.ident.now in
    let h = d.stands.history in
    let text = option_copied c.args.text in
    let p = err_from_is_err_and c.from_residual.result c.from_residual.ensures.1 in
    subst (λ (z : Result Planned HistoryError). Gives (MergesText f s.files h c.args.a c.args.b text) (outcomes z)) (sym (p.1 ∙ ap Err p.2))
    (given_told f s.files h c.args.a c.args.b text c.in_err-tell_sides-in-Err.field-0.0 (c.in_err-tell_sides-in-Err.ensures.refused f s d))

pub returns-in_ok-tell_sides-in-Err-clause-merges : goal.returns-in_ok-tell_sides-in-Err-clause-merges
returns-in_ok-tell_sides-in-Err-clause-merges g c = λ s d.
    let text = option_copied c.args.text in
    given_refused (g.I.Ident.meaning c.args.ident.now) s.files d.stands.history c.args.a c.args.b text c.in-Err.error (subst (GivesResolutions text) c.in-Err.is c.given.ensures) (c.in_ok-tell_sides-in-Err.ensures.told (g.I.Ident.meaning c.args.ident.now) s d)

pub returns-in-Ok-clause-tree : goal.returns-in-Ok-clause-tree
returns-in-Ok-clause-tree g c = λ s d.
    let text = option_copied c.args.text in
    c.plan.ensures.tree s d (given_lawful text c.in-Ok.resolutions (subst (GivesResolutions text) c.in-Ok.is c.given.ensures))

pub returns-in_err-tell_sides-in-Err-clause-damaged : goal.returns-in_err-tell_sides-in-Err-clause-damaged
returns-in_err-tell_sides-in-Err-clause-damaged g c =
    let told = g.K.Keeper.contents c.tell_sides.new.draft.keeper.now in
    let before = c.args.draft.now.pending in
    let p = err_from_is_err_and c.from_residual.result c.from_residual.ensures.1 in
    subst (λ (z : Result Planned HistoryError). IfSome told (λ d. IsCounted before d → IfErr z (λ e. IfStoreDamage e (IsDamage (with_all d before.batch))))) (sym (p.1 ∙ ap Err p.2))
    c.in_err-tell_sides-in-Err.ensures.damaged
