use Rattle.std.proofs.Common.{Err, sym, ap, ◌∙◌, subst}
use Rattle.std.proofs.lemmas.Result.{err_from_is_err_and}
use Rattle.mtn_merge.specs.Given.{OverridesAll}
use Rattle.mtn_merge.proofs.planning.overridden.Goals as goal

pub returns-in_err-decisions-clause-overrides : goal.returns-in_err-decisions-clause-overrides
returns-in_err-decisions-clause-overrides g c = λ f s d.
    let p = err_from_is_err_and c.from_residual.result c.from_residual.ensures.1 in
    subst (OverridesAll s.files c.args.compared.decisions c.args.compared.conflicts c.args.resolutions.now) (sym (p.1 ∙ ap Err p.2)) (c.in_err-decisions.ensures.refuses f s d)
