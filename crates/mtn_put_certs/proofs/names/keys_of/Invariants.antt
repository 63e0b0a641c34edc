use Rattle.std.proofs.Common.{◌≡◌, map, take}
use Rattle.mtn_put_certs.proofs.names.keys_of.Given as goal

abbrev pub invariant-loop-cert : goal.invariant-loop-cert
invariant-loop-cert l = l.ids.items ≡ map (λ x. x.key) (take l.cert-index l.certs)
