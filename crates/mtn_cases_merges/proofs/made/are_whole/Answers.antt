use Rattle.std.proofs.Common.{◌≡◌, true, List, map, refl, subst, rules}
use Rattle.mtn_base.specs.Lists.{rises}
use Rattle.mtn_base.specs.Names.{bytes_cmp}
use Rattle.mtn_base.proofs.Sorting.{no_split}
use Rattle.mtn_decide.specs.declared.decision.AttrDecision.{AttrDecision}
use Rattle.mtn_decide.specs.declared.decision.Decision.{Decision}
use Rattle.mtn_decide.specs.Decisions.{has_keys_in_order, is_absent}
use Rattle.mtn_cases_merges.proofs.Each.{IsWhole, each_next, each_all, all_of_each, same_of_each}
use Rattle.mtn_cases_merges.proofs.made.are_whole.Goals as goal

pub loop-node-init : goal.loop-node-init
loop-node-init c = λ d s. absurd (no_split d s)

pub loop-node-preserved : goal.loop-node-preserved
loop-node-preserved c =
    each_next IsWhole c.args.nodes.now c.loop-node.node-index c.node-item.result c.loop-node-test.true c.node-item.is c.loop-node.invariant (
      subst (λ as'. rises bytes_cmp (map (λ (a : AttrDecision). a.key) as') ≡ true) c.as_slice.ensures (c.if-not-keys_ascend.ensures refl),
      search rules,
    )

pub returns-clause-keys : goal.returns-clause-keys
returns-clause-keys c = λ _.
    all_of_each has_keys_in_order c.args.nodes.now
    (λ d s. (each_all IsWhole c.args.nodes.now c.loop-node.node-index c.loop-node-test.false c.loop-node.invariant d s).0)

pub returns-clause-kinds : goal.returns-clause-kinds
returns-clause-kinds c = λ _.
    same_of_each (λ (d : Decision). is_absent d.content) (λ (d : Decision). d.is_dir) c.args.nodes.now
    (λ d s. (each_all IsWhole c.args.nodes.now c.loop-node.node-index c.loop-node-test.false c.loop-node.invariant d s).1)
