use Rattle.std.proofs.Common.{◌≡◌, ◌++◌, map, take}
use Rattle.mtn_exports.specs.Exports.{cert_packet, packets_text}
use Rattle.mtn_sending.proofs.said.write_all.Given as goal

abbrev pub invariant-loop-cert : goal.invariant-loop-cert
invariant-loop-cert l = l.out.items ≡ l.fn.out.items ++ packets_text (map cert_packet (map (λ b. b.now) (take l.cert-index l.certs)))
