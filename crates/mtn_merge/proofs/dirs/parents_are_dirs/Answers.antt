use Rattle.std.proofs.Common.{refl}
use Rattle.mtn_base.proofs.Sorting.{no_split}
use Rattle.mtn_decide.specs.declared.decision.Decision.{Decision}
use Rattle.mtn_merge.specs.Parents.{HangsOnFile}
use Rattle.mtn_merge.proofs.Each.{each_next, each_all}
use Rattle.mtn_merge.proofs.Parents.{all_dirs, not_dirs, split_item}
use Rattle.mtn_merge.proofs.dirs.parents_are_dirs.Goals as goal

pub loop-node-init : goal.loop-node-init
loop-node-init c = λ d s. absurd (no_split d s)

pub loop-node-preserved : goal.loop-node-preserved
loop-node-preserved c =
    each_next (λ (d : Decision). ¬ HangsOnFile c.args.nodes.now d) c.args.nodes.now c.loop-node.node-index c.node-item.result c.loop-node-test.true c.node-item.is c.loop-node.invariant
    (λ hangs. let t = c.hangs_on_file.ensures.1 hangs in let f = c.if-hangs_on_file.false in cc)

pub returns-then-hangs_on_file : goal.returns-then-hangs_on_file
returns-then-hangs_on_file c = (
  λ t. cc,
  λ dirs. absurd (not_dirs c.args.nodes.now c.requires c.node-item.result (split_item c.args.nodes.now c.loop-node.node-index c.node-item.result c.node-item.result c.loop-node-test.true c.node-item.is)
      (c.hangs_on_file.ensures.0 c.if-hangs_on_file.true) dirs),
)

pub returns : goal.returns
returns c = (
  λ _. all_dirs c.args.nodes.now (each_all (λ (d : Decision). ¬ HangsOnFile c.args.nodes.now d) c.args.nodes.now c.loop-node.node-index c.loop-node-test.false c.loop-node.invariant),
  λ _. refl,
)
