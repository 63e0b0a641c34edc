use Rattle.std.proofs.Common.{map, take}
use Rattle.mtn_branches.specs.Branches.{NamesBranch}
use Rattle.mtn_branches.specs.Images.{IsImage}
use Rattle.mtn_branches.proofs.values.naming.Given as goal

abbrev pub invariant-loop-cert : goal.invariant-loop-cert
invariant-loop-cert l = IsImage NamesBranch (take l.cert-index l.certs) (map (λ b. b.now.value) l.naming.items)
