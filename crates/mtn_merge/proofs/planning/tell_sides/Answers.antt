use Rattle.std.specs.Prelude.{IfErr}
use Rattle.std.proofs.Common.{Err, sym, ap, ◌∙◌, subst}
use Rattle.std.proofs.lemmas.Result.{err_from_is_err_and}
use Rattle.mtn_plans.specs.Sides.{side_refusal}
use Rattle.mtn_put_revision.specs.Finding.{IsRefusal}
use Rattle.mtn_merge.proofs.Plans.{told_refused}
use Rattle.mtn_merge.proofs.planning.tell_sides.Goals as goal

pub returns-in_err-sides_of-clause-refused : goal.returns-in_err-sides_of-clause-refused
returns-in_err-sides_of-clause-refused g c = λ f s d.
    let h = d.stands.history in
    let p = err_from_is_err_and c.from_residual.result c.from_residual.ensures.1 in
    subst (λ r. IfErr r (IsRefusal (side_refusal h c.args.a c.args.b))) (sym (p.1 ∙ ap Err p.2)) (told_refused h c.args.a c.args.b c.in_err-sides_of.field-0.0 (c.in_err-sides_of.ensures.finds f s d))

pub returns-clause-told : goal.returns-clause-told
returns-clause-told g c = λ f s d. (c.in_ok-sides_of.ensures.finds f s d).0
