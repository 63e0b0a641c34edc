-- The tree keeps its names where no node is reborn; else they are those in a revision of the id.
use Rattle.std.specs.Prelude.{IsTrue, map}
use Rattle.std.specs.List.{list_any}
use Rattle.std.proofs.Common.{◌≡◌, false, List, sym, ◌∙◌, subst}
use Rattle.mtn_base.specs.Lists.{rises}
use Rattle.mtn_base.specs.Names.{name_cmp}
use Rattle.mtn_conflicts.specs.Result.{NoneBornIn}
use Rattle.mtn_conflicts.proofs.Buildable.{before_is_result}
use Rattle.mtn_decide.specs.declared.decision.Decision.{Decision}
use Rattle.mtn_merge.proofs.made.tree_in.Goals as goal

pub returns-then-not-is_some_reborn : goal.returns-then-not-is_some_reborn
returns-then-not-is_some_reborn c =
    c.requires.tree ∙ before_is_result c.args.decisions.now c.nodes-nodes.ensures.order c.requires.clear c.requires.dirs
    (subst (λ (l : List Decision). list_any (λ (d : Decision). d.reborn) l ≡ false) c.nodes-nodes.ensures.nodes (sym c.is_some_reborn.ensures ∙ c.if-not-is_some_reborn.true)) c.args.id

pub none_is_born-requires : goal.none_is_born-requires
none_is_born-requires c = subst (λ (l : List Decision). IsTrue (rises name_cmp (map (λ (d : Decision). d.name) l))) (sym c.nodes-nodes.ensures.nodes) c.nodes-nodes.ensures.order.names

pub returns-then-not-none_is_born : goal.returns-then-not-none_is_born
returns-then-not-none_is_born c = λ none.
    let t = c.none_is_born.ensures.1 (subst (λ (l : List Decision). NoneBornIn l c.args.id) (sym c.nodes-nodes.ensures.nodes) none) in
    let f = c.if-not-none_is_born.true in
    cc

pub under_new_names-requires-clause-fresh : goal.under_new_names-requires-clause-fresh
under_new_names-requires-clause-fresh c = subst (λ (l : List Decision). NoneBornIn l c.args.id) c.nodes-nodes.ensures.nodes (c.none_is_born.ensures.0 c.if-not-none_is_born.false)
