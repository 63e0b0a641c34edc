-- The tree, or why there is none.
use Rattle.std.specs.Prelude.{IfSome}
use Rattle.std.proofs.Common.{sym, subst}
use Rattle.mtn_generated.specs.Numbered.{edge_fault, no_id}
use Rattle.mtn_history.specs.Damage.{IsDamage}
use Rattle.mtn_history.specs.Errors.{IfStoreDamage}
use Rattle.mtn_history.specs.Marked.{IsCounted}
use Rattle.mtn_history.specs.declared.errors.HistoryError.TheVariants.{Store}
use Rattle.mtn_history.specs.declared.pending.Pending.{Pending}
use Rattle.mtn_ports.specs.Kept.{with_all}
use Rattle.mtn_ports.proofs.KeptLemmas.{stays_trans}
use Rattle.mtn_replay.specs.Making.{edge_tree as tree_in}
use Rattle.mtn_generating.proofs.GoingLemmas.{never_damaged, undamaged}
use Rattle.mtn_generating.proofs.TreeLemmas.{not_made, tree_made}
use Rattle.mtn_generating.proofs.put.tree_of.Goals as goal

pub returns-in-Err-clause-stays : goal.returns-in-Err-clause-stays
returns-in-Err-clause-stays g c = stays_trans g.K.Keeper.contents g.K.Keeper.leaves g.K.Keeper.faults _ _ _ c.in-Err.ensures.stays c.shown.ensures.stays

pub returns-in-Err-clause-treeless : goal.returns-in-Err-clause-treeless
returns-in-Err-clause-treeless g c = λ f s d.
    undamaged (edge_fault d.stands.history c.args.edge.now) c.in-Err.error c.shown.result c.shown.ensures.answered
    (never_damaged f (g.K.Keeper.contents c.edge_tree.new.draft.keeper.now) d.records c.args.draft.now.pending s (Store c.in-Err.error) (c.shown.ensures.stays.same d.records d.tells) d.draft c.in-Err.ensures.damaged)

pub returns-in-Ok-Ok-clause-fine : goal.returns-in-Ok-Ok-clause-fine
returns-in-Ok-Ok-clause-fine g c = λ f s d. (tree_made (edge_fault d.stands.history c.args.edge.now) (tree_in d.stands.history no_id c.args.edge.now) _ _ c.in-Ok-Ok.field-0-is (c.in-Ok-Ok.ensures.made f s d)).0

pub returns-in-Ok-Ok-clause-made : goal.returns-in-Ok-Ok-clause-made
returns-in-Ok-Ok-clause-made g c = λ f s d. (tree_made (edge_fault d.stands.history c.args.edge.now) (tree_in d.stands.history no_id c.args.edge.now) _ _ c.in-Ok-Ok.field-0-is (c.in-Ok-Ok.ensures.made f s d)).1

pub returns-in-Ok-Err-clause-treeless : goal.returns-in-Ok-Err-clause-treeless
returns-in-Ok-Err-clause-treeless g c = λ f s d.
    not_made (edge_fault d.stands.history c.args.edge.now) (tree_in d.stands.history no_id c.args.edge.now) _ _ c.in-Ok-Err.field-0-is (c.in-Ok-Err.ensures.made f s d)

pub shown-requires : goal.shown-requires
shown-requires g c = record {
  damaged = subst (λ (p : Pending). IfSome (g.K.Keeper.contents c.edge_tree.new.draft.keeper.now) (λ k. IsCounted p k → IfStoreDamage (Store c.in-Err.error) (IsDamage (with_all k p.batch)))) (sym c.in-Err.ensures.pending) c.in-Err.ensures.damaged;
}
