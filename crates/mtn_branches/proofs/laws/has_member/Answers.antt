use Rattle.std.proofs.Common.{refl}
use Rattle.mtn_branches.proofs.laws.has_member.Goals as goal

pub returns : goal.returns
returns c certs branch = (λ t. (t.0.revision, (t.0, t.1, record { names = t.2; revision = refl })), λ t. (t.1.0, t.1.1, t.1.2.names))
