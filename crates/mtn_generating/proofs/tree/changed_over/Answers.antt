use Rattle.std.proofs.Common.{sym, ap, ◌∙◌}
use Rattle.mtn_marking.specs.Marking.{MarkedTree}
use Rattle.mtn_generating.proofs.TreeLemmas.{held_makes, held_tree, unfound, unheld_fault}
use Rattle.mtn_generating.proofs.tree.changed_over.Goals as goal

pub returns-in-Ok-clause-made : goal.returns-in-Ok-clause-made
returns-in-Ok-clause-made g c = λ f s d.
    let found = c.in-Ok.ensures.found f s d in
    held_makes d.stands.history c.args.changes.now c.args.parent _ found.0 (c.roster.ensures.tree ∙ ap (λ (m : MarkedTree). m.tree) c.marked.ensures ∙ sym (held_tree d.stands.history c.args.parent _ _ found.0 found.1))
    c.in_ok-changed-in-Ok.field-0 c.in_ok-changed-in-Ok.ensures

pub returns-in-Err-Refused-clause-made : goal.returns-in-Err-Refused-clause-made
returns-in-Err-Refused-clause-made g c = λ f s d. unheld_fault d.stands.history c.args.changes.now c.args.parent (unfound d.stands.history c.args.parent _ _ c.in-Err-Refused.field-0-is (c.in-Err-Refused.ensures.found f s d))
