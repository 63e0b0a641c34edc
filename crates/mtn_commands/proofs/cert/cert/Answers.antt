use Rattle.std.proofs.Common.{◌≡◌, ◌∙◌, None, Ok, Some, sym, subst}
use Rattle.mtn_certs.specs.Certificates.{Certificate, certificate, fault_of}
use Rattle.mtn_put_certs.specs.Accepting.{AcceptsCert}
use Rattle.mtn_step.specs.Certifying.{signature_of as bytes_of}
use Rattle.mtn_commands.proofs.CertsLemmas.{cert_done}
use Rattle.mtn_commands.proofs.cert.cert.Goals as goal

pub returns-clause-drafts : goal.returns-clause-drafts
returns-clause-drafts g c =
    let f = g.I.Ident.meaning c.args.ident.now in
    let spelled : bytes_of c.args.signature.now ≡ Some c.in-Some.signature = sym c.in_ok-signature.ensures ∙ c.in-Some.is in
    let parts : certificate c.args.revision c.as_slice.result.now c.args.key c.as_slice-2.result.now c.as_slice-3.result.now
    ≡ certificate c.args.revision c.args.name.now c.args.key c.args.value.now c.in-Some.signature =
    λ i. certificate c.args.revision (c.as_slice.ensures i) c.args.key (c.as_slice-2.ensures i) (c.as_slice-3.ensures i) in
    record {
      stays = c.in_ok-put_cert-in-Ok.ensures.stays;
      done = λ k s told draft.
          cert_done f c.args.revision c.args.name.now c.args.key c.args.value.now c.args.signature.now c.in-Some.signature spelled k s c.put_cert.new.draft.pending c.new.result
          (subst (λ (x : Certificate). fault_of x ≡ None) parts c.in-Ok.ensures.lawful)
          (subst (λ (x : Certificate). AcceptsCert f k s x (Ok c.in_ok-put_cert-in-Ok.field-0) c.put_cert.new.draft.pending) (c.in-Ok.ensures.ok ∙ parts) (c.in_ok-put_cert-in-Ok.ensures.accepts f k s told draft)) c.new.ensures;
      reason = λ counted. tt;
    }
