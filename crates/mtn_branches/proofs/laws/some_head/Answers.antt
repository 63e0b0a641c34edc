use Rattle.std.specs.Prelude.{Contains}
use Rattle.mtn_branches.specs.Branches.{IsMember}
use Rattle.mtn_branches.proofs.HeadLemmas.{members_of, members_are, some_head}
use Rattle.mtn_branches.proofs.laws.some_head.Goals as goal

pub returns : goal.returns
returns c log certs branch is held r member =
    some_head log is (IsMember (Contains certs) branch) held (members_of branch certs) (members_are branch certs) r member
