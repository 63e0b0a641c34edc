use Rattle.std.proofs.Common.{◌++◌, ◌∙◌, map, ap}
use Rattle.mtn_certs.specs.Order.{in_order}
use Rattle.mtn_exports.specs.Exports.{cert_packet, packets_text}
use Rattle.mtn_sending.proofs.Certs.{certs_listed}
use Rattle.mtn_sending.proofs.said.write_certs.Goals as goal

pub returns-clause-found : goal.returns-clause-found
returns-clause-found g c = λ f s d. (
  in_order c.in_ok-certs.certs.items,
  certs_listed s c.args.id c.in_ok-certs.certs.items (c.in_ok-certs.ensures.found f d.records s d.tells d.draft),
  c.in_ok-write_all.ensures
      ∙ ap (λ bs. c.args.out.now.items ++ packets_text (map cert_packet (map (λ b. b.now) bs))) c.deref-2.ensures.value
      ∙ ap (λ cs. c.args.out.now.items ++ packets_text (map cert_packet cs)) (c.in_ok-sorted.ensures ∙ ap in_order c.deref.ensures.value),
)
