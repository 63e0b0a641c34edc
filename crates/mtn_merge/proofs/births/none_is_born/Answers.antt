-- Each node was looked at, or one has the birth.
use Rattle.std.proofs.Common.{◌≢◌, refl, sym, ◌∙◌, ap, subst}
use Rattle.mtn_base.proofs.Sorting.{no_split}
use Rattle.mtn_base.proofs.Tests.{same_id-is, same_id-self}
use Rattle.mtn_base.specs.Names.{same_id}
use Rattle.mtn_base.specs.declared.id.Id.{Id}
use Rattle.mtn_base.specs.declared.name.NodeName.{NodeName}
use Rattle.mtn_conflicts.proofs.Nodes.{distinct, found_at, found_name}
use Rattle.mtn_decide.specs.declared.decision.Decision.{Decision}
use Rattle.mtn_merge.proofs.Each.{each_all, each_next}
use Rattle.mtn_merge.proofs.Parents.{split_item}
use Rattle.mtn_merge.proofs.births.none_is_born.Goals as goal

pub loop-node-init : goal.loop-node-init
loop-node-init c = λ d s. absurd (no_split d s)

pub loop-node-preserved : goal.loop-node-preserved
loop-node-preserved c =
    each_next (λ (d : Decision). d.name.birth ≢ c.args.id) c.args.nodes.now c.loop-node.node-index c.node-item.result c.loop-node-test.true c.node-item.is c.loop-node.invariant
    (λ same. let t = sym (ap (λ (i : Id). same_id i c.args.id) same ∙ same_id-self c.args.id) ∙ sym c.is_born.ensures ∙ c.if-is_born.false in cc)

pub returns-then-is_born : goal.returns-then-is_born
returns-then-is_born c = (
  λ t. cc,
  λ none. absurd (none c.node-item.result.name c.node-item.result
      (distinct c.args.nodes.now c.requires c.node-item.result (split_item c.args.nodes.now c.loop-node.node-index c.node-item.result c.node-item.result c.loop-node-test.true c.node-item.is))
      (same_id-is c.node-item.result.name.birth c.args.id (sym c.is_born.ensures ∙ c.if-is_born.true))),
)

pub returns : goal.returns
returns c = (
  λ _. λ n d h. subst (λ (m : NodeName). m.birth ≢ c.args.id) (found_name c.args.nodes.now n d h)
      (each_all (λ (e : Decision). e.name.birth ≢ c.args.id) c.args.nodes.now c.loop-node.node-index c.loop-node-test.false c.loop-node.invariant d (found_at c.args.nodes.now n d h)),
  λ _. refl,
)
