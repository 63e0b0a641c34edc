use Rattle.std.proofs.Common.{◌≡◌, map, take}
use Rattle.mtn_branches.proofs.values.values_of.Given as goal

abbrev pub invariant-loop-cert : goal.invariant-loop-cert
invariant-loop-cert l = l.values.items ≡ map (λ b. b.now.value) (take l.cert-index l.certs)
