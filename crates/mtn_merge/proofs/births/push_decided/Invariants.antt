use Rattle.std.proofs.Common.{Contains, take}
use Rattle.mtn_base.proofs.Finding.{Split}
use Rattle.mtn_decide.specs.declared.decision.Decision.{Decision}
use Rattle.mtn_merge.specs.Births.{number_in, Keeps}
use Rattle.mtn_merge.proofs.births.push_decided.Given as goal

abbrev pub invariant-loop-node : goal.invariant-loop-node
invariant-loop-node l = record {
  has : (d : Decision) → Split (take l.node-index l.nodes) d → Contains l.numbers.items (number_in d.name.birth);
  keeps : Keeps l.fn.numbers.items l.numbers.items;
}
