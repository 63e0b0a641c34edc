use Rattle.std.specs.Prelude.{IfOk}
use Rattle.std.proofs.Common.{Option, sym, subst}
use Rattle.mtn_base.specs.declared.id.Id.{Id}
use Rattle.mtn_changeset_laws.specs.Changes.{tree_after}
use Rattle.mtn_generated.specs.Numbered.{edge_fault, no_id}
use Rattle.mtn_generating.specs.Numbered.{Makes}
use Rattle.mtn_replay.specs.Making.{parent_tree}
use Rattle.mtn_generating.proofs.TreeLemmas.{begun_makes, edge}
use Rattle.mtn_generating.proofs.tree.edge_tree.Goals as goal

pub returns-in_ok-begun-in-None-clause-made : goal.returns-in_ok-begun-in-None-clause-made
returns-in_ok-begun-in-None-clause-made g c = λ f s d.
    begun_makes d.stands.history c.args.edge.now c.in-None.is c.in_ok-begun-in-None.field-0 c.in_ok-begun-in-None.ensures

pub returns-in-Some-clause-made : goal.returns-in-Some-clause-made
returns-in-Some-clause-made g c = λ f s d.
    subst (λ (o : Option Id). IfOk c.changed_over.result (Makes (edge_fault d.stands.history (edge o c.args.edge.now.changes)) (tree_after (parent_tree d.stands.history o) c.args.edge.now.changes no_id))) (sym c.in-Some.is) (c.changed_over.ensures.made f s d)
