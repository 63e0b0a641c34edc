use Rattle.std.proofs.Common.{refl}
use Rattle.mtn_decide.specs.declared.decision.Decision.{Decision}
use Rattle.mtn_base.proofs.Sorting.{no_split}
use Rattle.mtn_conflicts.specs.Parts.{IsRootChoice}
use Rattle.mtn_conflicts.proofs.Listing.{none_next, none_all}
use Rattle.mtn_conflicts.proofs.Making.{own_at}
use Rattle.mtn_conflicts.proofs.Nodes.{found_at}
use Rattle.mtn_conflicts.proofs.find.has_root.Goals as goal

pub loop-node-init : goal.loop-node-init
loop-node-init c = λ d s. absurd (no_split d s)

pub returns-then-is_root : goal.returns-then-is_root
returns-then-is_root c = (
  λ _. (c.node-item.result.name, c.node-item.result, own_at c.args.nodes.now c.requires c.loop-node.node-index c.node-item.result c.loop-node-test.true c.node-item.is, c.is_root.ensures.0 c.if-is_root.true),
  λ _. refl,
)

pub loop-node-preserved : goal.loop-node-preserved
loop-node-preserved c =
    none_next (λ (d : Decision). IsRootChoice d.slot) c.args.nodes.now c.loop-node.node-index c.node-item.result c.loop-node-test.true c.node-item.is c.loop-node.invariant
    (λ p. let e = c.is_root.ensures.1 p in let f = c.if-is_root.false in cc)

pub returns : goal.returns
returns c = (
  λ t. absurd cc,
  λ t. absurd (none_all (λ (d : Decision). IsRootChoice d.slot) c.args.nodes.now c.loop-node.node-index c.loop-node-test.false c.loop-node.invariant t.1 (found_at c.args.nodes.now t.0 t.1 t.2) t.3),
)
