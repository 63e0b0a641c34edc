use Rattle.std.specs.Prelude.{IfSome}
use Rattle.std.proofs.Common.{◌∙◌, Err, refl, ap, subst}
use Rattle.std.proofs.lemmas.Result.{err_from_is_err_and}
use Rattle.mtn_ports.specs.Kept.{IsAbove}
use Rattle.mtn_put_certs.proofs.HeldLemmas.{next_damaged}
use Rattle.mtn_put_certs.proofs.Walking.{from_later}
use Rattle.mtn_put_certs.proofs.held.next_cert.Goals as goal

pub returns-in_err-cert-clause-damaged : goal.returns-in_err-cert-clause-damaged
returns-in_err-cert-clause-damaged g c =
    let p = err_from_is_err_and c.from_residual-in_err-cert.result c.from_residual-in_err-cert.ensures.1 in
    next_damaged (g.K.Keeper.contents c.following.new.draft.keeper.now) c.args.draft.now.pending c.args.draft.now.pending c.args.front.now c.as_slice.result.now c.in-Some.key c.in-Some.body c.as_slice-2.result.now c.as_slice-3.result.now
    c.in_ok-key.field-0 c.from_residual-in_err-cert.result c.in_err-cert.field-0.0 refl c.in-Some.is c.as_slice-2.ensures c.as_slice-3.ensures (p.1 ∙ ap Err p.2) c.in_ok-key.ensures.found c.in_err-cert.ensures.damaged

pub returns-clause-from : goal.returns-clause-from
returns-clause-from g c =
    from_later c.args.front.now c.args.last.now c.in-Some.key c.requires
    (subst (λ l. IsAbove l c.in-Some.key) c.as_slice.ensures (subst (λ o. IfSome o (λ r. IsAbove c.as_slice.result.now r.0)) c.in-Some.is c.in_ok-key.ensures.above))
