use Rattle.std.proofs.Common.{Err, sym, ap, ◌∙◌, subst}
use Rattle.std.proofs.lemmas.Result.{err_from_is_err_and}
use Rattle.mtn_plans.specs.Plans.{Looks, LooksAtSides}
use Rattle.mtn_plans.specs.Sides.{left_of, right_of}
use Rattle.mtn_merge.specs.Plans.{Gives}
use Rattle.mtn_merge.proofs.Plans.{looked, sides_refused}
use Rattle.mtn_merge.proofs.planning.look.Goals as goal

pub returns-in_err-left-clause-looks : goal.returns-in_err-left-clause-looks
returns-in_err-left-clause-looks g c = λ f s d.
    let h = d.stands.history in
    let p = err_from_is_err_and c.from_residual.result c.from_residual.ensures.1 in
    subst (Gives (Looks h c.args.a c.args.b)) (sym (p.1 ∙ ap Err p.2))
    (sides_refused h c.args.a c.args.b (LooksAtSides h (left_of c.args.a c.args.b) (right_of c.args.a c.args.b)) c.in_err-left.field-0.0 (c.in_err-left.ensures.finds f s d))

pub returns-clause-looks : goal.returns-clause-looks
returns-clause-looks g c = λ f s d.
    let found = c.in_ok-left.ensures.finds f s d in
    looked f s.files d.stands.history c.args.a c.args.b c.in_ok-left.field-0 found.0 found.1 c.in_ok-left.ensures.conflicts
