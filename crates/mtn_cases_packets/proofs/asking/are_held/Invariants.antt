use Rattle.std.specs.Prelude.{Contains}
use Rattle.std.proofs.Common.{take}
use Rattle.mtn_base.specs.declared.id.Id.{Id}
use Rattle.mtn_branches.specs.Graphs.{IsHeldBy}
use Rattle.mtn_cases_packets.proofs.asking.are_held.Given as goal

abbrev pub invariant-loop-id : goal.invariant-loop-id
invariant-loop-id l = (r : Id) → Contains (take l.id-index l.ids) r → IsHeldBy l.graph r
