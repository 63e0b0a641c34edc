use Rattle.std.specs.Prelude.{IfSome, bytes_eq}
use Rattle.std.proofs.Common.{◌∙◌, [], Some, refl, ap, subst}
use Rattle.mtn_ports.specs.Kept.{IsAbove}
use Rattle.mtn_put_certs.proofs.NamedLemmas.{named_follows}
use Rattle.mtn_put_certs.proofs.Walking.{from_later}
use Rattle.mtn_put_certs.proofs.named.next_named.Goals as goal

pub returns-clause-from : goal.returns-clause-from
returns-clause-from g c =
    from_later [] c.args.last.now c.in-Some.key c.requires
    (subst (λ l. IsAbove l c.in-Some.key) c.as_slice.ensures (subst (λ o. IfSome o (λ r. IsAbove c.as_slice.result.now r.0)) c.in-Some.is c.in_ok-key.ensures.above))

pub returns-clause-found : goal.returns-clause-found
returns-clause-found g c =
    named_follows (g.K.Keeper.contents c.following.new.draft.keeper.now) c.args.draft.now.pending c.args.draft.now.pending c.args.name.now c.args.last.now c.as_slice.result.now c.in-Some.key c.in-Some.held c.in-Some.key c.in_ok-key.field-0
    c.eq.result (Some c.eq.result) refl c.as_slice.ensures c.in-Some.is refl refl (c.eq.ensures ∙ ap (λ b. bytes_eq b c.args.name.now) c.as_slice-2.ensures) c.in_ok-key.ensures.found
