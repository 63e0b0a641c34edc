use Rattle.std.proofs.lemmas.Result.{err_from_is_err_and}
use Rattle.mtn_merge.proofs.planning.decided_anew.Goals as goal

pub returns-in_err-decisions-clause-refuses : goal.returns-in_err-decisions-clause-refuses
returns-in_err-decisions-clause-refuses g c = λ f s d.
    let p = err_from_is_err_and c.from_residual.result c.from_residual.ensures.1 in
    rw (p.1, p.2) (c.in_err-decisions.ensures.overrides f s d)
