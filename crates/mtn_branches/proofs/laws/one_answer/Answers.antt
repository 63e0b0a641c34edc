use Rattle.std.specs.Prelude.{Contains}
use Rattle.mtn_base.specs.Names.{bytes_cmp}
use Rattle.mtn_base.proofs.Orders.{bytes_total}
use Rattle.mtn_branches.specs.Branches.{IsBranch, IsHead, IsMember}
use Rattle.mtn_branches.specs.Graphs.{IsProperlyAbove}
use Rattle.mtn_branches.proofs.HeadLemmas.{one_list, one_list_by}
use Rattle.mtn_branches.proofs.laws.one_answer.Goals as goal

pub returns-clause-members : goal.returns-clause-members
returns-clause-members c certs branch a b = one_list (IsMember (Contains certs) branch) a b

pub returns-clause-heads : goal.returns-clause-heads
returns-clause-heads c log certs branch a b = one_list (IsHead (IsProperlyAbove log) (IsMember (Contains certs) branch)) a b

pub returns-clause-branches : goal.returns-clause-branches
returns-clause-branches c certs a b = one_list_by bytes_cmp bytes_total (IsBranch (Contains certs)) a b
