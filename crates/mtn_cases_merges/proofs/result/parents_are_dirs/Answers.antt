use Rattle.std.specs.Prelude.{option_and_then}
use Rattle.std.proofs.Common.{◌≡◌, Bool, true, false, List, Option, Some, None, refl, inl, inr}
use Rattle.mtn_base.specs.declared.name.NodeName.{NodeName}
use Rattle.mtn_base.proofs.Sorting.{no_split}
use Rattle.mtn_base.proofs.Tests.{told}
use Rattle.mtn_decide.specs.declared.decision.Decision.{Decision}
use Rattle.mtn_decide.specs.Decisions.{decision_of}
use Rattle.mtn_conflicts.specs.Slots.{parent_in, parent_of}
use Rattle.mtn_conflicts.proofs.Nodes.{found_at}
use Rattle.mtn_cases_merges.specs.Parents.{HangsOnFile}
use Rattle.mtn_cases_merges.proofs.Each.{each_next, each_all}
use Rattle.mtn_cases_merges.proofs.result.parents_are_dirs.Goals as goal

hung : (ds : List Decision) (n p : NodeName) → parent_of ds n ≡ Some p → (d : Decision) × (decision_of ds n ≡ Some d) × (parent_in d.slot ≡ Some p)
hung ds n p h = go (decision_of ds n) refl h
  where
    go : (o : Option Decision) → decision_of ds n ≡ o → option_and_then (λ (d : Decision). parent_in d.slot) o ≡ Some p → (d : Decision) × (decision_of ds n ≡ Some d) × (parent_in d.slot ≡ Some p)
    go None g k = absurd cc
    go (Some d) g k = (d, g, k)

so : (b : Bool) → (b ≡ false → ⊥) → b ≡ true
so b n = elim (told b) [ inl y ↦ y | inr f ↦ absurd (n f) ]

pub loop-node-init : goal.loop-node-init
loop-node-init c = λ d s. absurd (no_split d s)

pub loop-node-preserved : goal.loop-node-preserved
loop-node-preserved c =
    each_next (λ (d : Decision). ¬ HangsOnFile c.args.nodes.now d) c.args.nodes.now c.loop-node.node-index c.node-item.result c.loop-node-test.true c.node-item.is c.loop-node.invariant
    (c.if-hangs_on_file.ensures refl)

pub returns : goal.returns
returns c = λ _.
    let ds = c.args.nodes.now in
    let each = each_all (λ (d : Decision). ¬ HangsOnFile ds d) ds c.loop-node.node-index c.loop-node-test.false c.loop-node.invariant in
    record {
      root = λ n d h e. so d.is_dir (λ f. each d (found_at ds n d h) (inl (e, f)));
      parents = λ n p d h g. let u = hung ds n p h in so d.is_dir (λ f. each u.0 (found_at ds n u.0 u.1) (inr (p, d, u.2, g, f)));
    }
