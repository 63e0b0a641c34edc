use Rattle.std.proofs.Common.{◌≢◌, ◌∙◌, ap}
use Rattle.mtn_base.specs.declared.name.NodeName.{NodeName}
use Rattle.mtn_base.proofs.Sorting.{no_split}
use Rattle.mtn_decide.specs.declared.decision.Decision.{Decision}
use Rattle.mtn_conflicts.proofs.Nodes.{found_at, found_name}
use Rattle.mtn_cases_merges.proofs.Each.{each_next, each_all}
use Rattle.mtn_cases_merges.proofs.result.none_born_in.Goals as goal

pub loop-node-init : goal.loop-node-init
loop-node-init c = λ d s. absurd (no_split d s)

pub loop-node-preserved : goal.loop-node-preserved
loop-node-preserved c =
    each_next (λ (d : Decision). d.name.birth ≢ c.args.id) c.args.nodes.now c.loop-node.node-index c.node-item.result c.loop-node-test.true c.node-item.is c.loop-node.invariant
    (λ p. let e = c.are_same.ensures.1 p in let f = c.if-are_same.false in cc)

pub returns : goal.returns
returns c = λ _ n d h e.
    each_all (λ (d : Decision). d.name.birth ≢ c.args.id) c.args.nodes.now c.loop-node.node-index c.loop-node-test.false c.loop-node.invariant d (found_at c.args.nodes.now n d h)
    (ap (λ (m : NodeName). m.birth) (found_name c.args.nodes.now n d h) ∙ e)
