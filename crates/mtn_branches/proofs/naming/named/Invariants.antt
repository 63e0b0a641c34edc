use Rattle.std.proofs.Common.{take}
use Rattle.mtn_branches.specs.Branches.{NamesMember}
use Rattle.mtn_branches.specs.Images.{IsImage}
use Rattle.mtn_branches.proofs.naming.named.Given as goal

abbrev pub invariant-loop-cert : goal.invariant-loop-cert
invariant-loop-cert l = IsImage (NamesMember l.branch) (take l.cert-index l.certs) l.ids.items
