use Rattle.std.proofs.Common.{◌≡◌, [], ap, ◌∙◌}
use Rattle.mtn_certs.specs.Certificates.{Certificate}
use Rattle.mtn_check.proofs.Certs.{cert_kept, is_bare}
use Rattle.mtn_check.proofs.beside.CertsTest.keeps.Goals as goal

pub returns-clause-kept : goal.returns-clause-kept
returns-clause-kept g c =
    let bare : c.args.body.now ≡ [] = is_bare c.args.body.now c.is_empty.result c.is_empty.ensures c.if-not-is_empty.false in
    let shows : c.as_slice.result.now ≡ c.in-Some.cert.revision.0 = c.as_slice.ensures.value ∙ ap (λ (x : Certificate). x.revision.0) c.cert.view_is in
    cert_kept (g.K.Keeper.contents c.get.new.self) c.args.key.now c.args.body.now c.as_slice.result.now c.get.new.out.items c.in_ok-found.found c.in_ok-cert.field-0 c.in-Some.cert c.in-Some.is c.in_ok-cert.ensures bare shows c.in_ok-found.ensures.found
