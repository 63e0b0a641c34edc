use Rattle.std.proofs.Common.{◌≢◌, take}
use Rattle.mtn_base.proofs.Finding.{Split}
use Rattle.mtn_decide.specs.declared.decision.Decision.{Decision}
use Rattle.mtn_merge.proofs.births.none_is_born.Given as goal

abbrev pub invariant-loop-node : goal.invariant-loop-node
invariant-loop-node l = (d : Decision) → Split (take l.node-index l.nodes) d → d.name.birth ≢ l.id
