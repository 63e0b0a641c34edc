use Rattle.std.specs.Prelude.{Contains}
use Rattle.mtn_base.proofs.Sorting.{no_split}
use Rattle.mtn_conflicts.proofs.Nodes.{found_at, found_name}
use Rattle.mtn_decide.specs.declared.decision.Decision.{Decision}
use Rattle.std.proofs.Common.{subst}
use Rattle.mtn_base.specs.declared.name.NodeName.{NodeName}
use Rattle.mtn_merge.specs.Births.{number_in}
use Rattle.mtn_merge.proofs.Each.{each_all, each_next}
use Rattle.mtn_merge.proofs.UnbornLemmas.{keeps_itself, keeps_on}
use Rattle.mtn_merge.proofs.births.push_decided.Goals as goal

pub loop-node-init : goal.loop-node-init
loop-node-init c = record { has = λ d s. absurd (no_split d s); keeps = keeps_itself c.args.numbers.now.items }

pub loop-node-preserved : goal.loop-node-preserved
loop-node-preserved c = record {
  has = each_next (λ (d : Decision). Contains c.push_birth.new.numbers.items (number_in d.name.birth)) c.args.nodes.now c.loop-node.node-index c.node-item.result c.loop-node-test.true c.node-item.is
      (λ d s. c.in_ok-push_birth.ensures.keeps (number_in d.name.birth) (c.loop-node.invariant.has d s)) c.in_ok-push_birth.ensures.has;
  keeps = keeps_on c.args.numbers.now.items c.loop-node.numbers.items c.push_birth.new.numbers.items c.loop-node.invariant.keeps c.in_ok-push_birth.ensures.keeps;
}

pub returns-clause-has : goal.returns-clause-has
returns-clause-has c = λ n d h.
    let each = each_all (λ (x : Decision). Contains c.loop-node.numbers.items (number_in x.name.birth)) c.args.nodes.now c.loop-node.node-index c.loop-node-test.false c.loop-node.invariant.has in
    subst (λ (m : NodeName). Contains c.loop-node.numbers.items (number_in m.birth)) (found_name c.args.nodes.now n d h) (each d (found_at c.args.nodes.now n d h))

pub returns-clause-keeps : goal.returns-clause-keeps
returns-clause-keeps c = c.loop-node.invariant.keeps
