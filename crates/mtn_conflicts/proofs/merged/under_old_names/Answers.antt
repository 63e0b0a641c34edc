use Rattle.std.proofs.Common.{◌≡◌, sym, subst, ◌∙◌, ap, List}
use Rattle.std.specs.Prelude.{IfOk}
use Rattle.mtn_roster.specs.declared.entry.Entry.{Entry}
use Rattle.mtn_roster.specs.Building.{IsBuildable, tree_of}
use Rattle.mtn_roster.specs.Tree.{Tree}
use Rattle.mtn_conflicts.specs.Result.{tree_before}
use Rattle.mtn_conflicts.proofs.Buildable.{before_buildable, before_is}
use Rattle.mtn_conflicts.proofs.merged.under_old_names.Goals as goal

pub tree_made-requires : goal.tree_made-requires
tree_made-requires c =
    subst (λ (es : List Entry). IsBuildable es) (sym (c.in_ok-entries_of.ensures ∙ ap tree_before c.nodes.ensures.nodes))
    (before_buildable c.args.decisions.now c.nodes.ensures.order c.requires.clear c.requires.dirs)

pub returns : goal.returns
returns c =
    subst (λ (x : Tree). IfOk c.tree_made.result (λ (t : Tree). t ≡ x))
    (ap tree_of (c.in_ok-entries_of.ensures ∙ ap tree_before c.nodes.ensures.nodes)
    ∙ before_is c.args.decisions.now c.nodes.ensures.order c.requires.clear c.requires.dirs) c.tree_made.ensures
