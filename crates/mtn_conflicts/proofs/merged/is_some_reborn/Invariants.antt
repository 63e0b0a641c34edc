use Rattle.std.proofs.Common.{◌≡◌, false, take}
use Rattle.std.specs.List.{list_any}
use Rattle.mtn_decide.specs.declared.decision.Decision.{Decision}
use Rattle.mtn_conflicts.proofs.merged.is_some_reborn.Given as goal

abbrev pub invariant-loop-node : goal.invariant-loop-node
invariant-loop-node l = list_any (λ (d : Decision). d.reborn) (take l.node-index l.nodes) ≡ false
