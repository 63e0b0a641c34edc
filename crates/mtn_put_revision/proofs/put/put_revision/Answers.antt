-- By the text's id.
use Rattle.std.proofs.lemmas.Result.{err_from_is_err_and}
use Rattle.mtn_put_revision.proofs.put.put_revision.Goals as goal

pub returns-in_err-put_revision_as-clause-accepts : goal.returns-in_err-put_revision_as-clause-accepts
returns-in_err-put_revision_as-clause-accepts g c = λ x s tells draft.
    let p = err_from_is_err_and c.from_residual.result c.from_residual.ensures.1 in
    rw (p.1, p.2) (c.in_err-put_revision_as.ensures.accepts x s tells draft)

pub returns-in_err-put_revision_as-clause-damaged : goal.returns-in_err-put_revision_as-clause-damaged
returns-in_err-put_revision_as-clause-damaged g c =
    let p = err_from_is_err_and c.from_residual.result c.from_residual.ensures.1 in
    rw (p.1, p.2) c.in_err-put_revision_as.ensures.damaged

pub returns-clause-accepts : goal.returns-clause-accepts
returns-clause-accepts g c = λ x s tells draft. (c.id-id.ensures, c.in_ok-put_revision_as.ensures.accepts x s tells draft)
