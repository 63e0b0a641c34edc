use Rattle.std.specs.Prelude.{Contains}
use Rattle.mtn_branches.specs.Branches.{IsMember}
use Rattle.mtn_branches.specs.Graphs.{IsProperlyAbove}
use Rattle.mtn_branches.proofs.HeadLemmas.{same_heads, same_members}
use Rattle.mtn_branches.proofs.laws.one_set.Goals as goal

pub returns-clause-members : goal.returns-clause-members
returns-clause-members c a b branch same = same_members (Contains a) (Contains b) branch same

pub returns-clause-heads : goal.returns-clause-heads
returns-clause-heads c log a b branch same =
    same_heads (IsProperlyAbove log) (IsMember (Contains a) branch) (IsMember (Contains b) branch) (same_members (Contains a) (Contains b) branch same)
