use Rattle.std.proofs.Common.{◌≡◌, sym, subst, ◌∙◌, ap, List}
use Rattle.std.specs.Prelude.{map, IfOk}
use Rattle.mtn_roster.specs.declared.entry.Entry.{Entry}
use Rattle.mtn_roster.specs.Building.{IsBuildable, tree_of}
use Rattle.mtn_roster.specs.Tree.{Tree}
use Rattle.mtn_decide.specs.declared.decision.Decision.{Decision}
use Rattle.mtn_conflicts.specs.Result.{tree_before, new_entry}
use Rattle.mtn_conflicts.proofs.Buildable.{after_buildable, after_is}
use Rattle.mtn_conflicts.proofs.merged.under_new_names.Goals as goal

pub entries_after-requires-clause-tree : goal.entries_after-requires-clause-tree
entries_after-requires-clause-tree c = c.requires.tree ∙ sym (ap tree_before c.nodes.ensures.nodes)

pub tree_made-requires : goal.tree_made-requires
tree_made-requires c =
    subst (λ (es : List Entry). IsBuildable es) (sym (c.in_ok-entries_after.ensures ∙ ap (λ (ds : List Decision). map (new_entry ds c.args.reborn) ds) c.nodes.ensures.nodes))
    (after_buildable c.args.decisions.now c.nodes.ensures.order c.requires.clear c.requires.dirs c.args.reborn c.requires.fresh)

pub returns : goal.returns
returns c =
    subst (λ (x : Tree). IfOk c.tree_made.result (λ (t : Tree). t ≡ x))
    (ap tree_of (c.in_ok-entries_after.ensures ∙ ap (λ (ds : List Decision). map (new_entry ds c.args.reborn) ds) c.nodes.ensures.nodes)
    ∙ after_is c.args.decisions.now c.nodes.ensures.order c.requires.clear c.requires.dirs c.args.reborn c.requires.fresh) c.tree_made.ensures
