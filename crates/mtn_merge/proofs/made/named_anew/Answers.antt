use Rattle.std.specs.List.{list_any}
use Rattle.std.proofs.Common.{◌≡◌, false, List, sym, ◌∙◌, subst}
use Rattle.mtn_conflicts.proofs.Buildable.{before_is_result}
use Rattle.mtn_decide.specs.declared.decision.Decision.{Decision}
use Rattle.mtn_merge.proofs.made.named_anew.Goals as goal

pub returns-then-not-is_some_reborn : goal.returns-then-not-is_some_reborn
returns-then-not-is_some_reborn c =
    c.requires.tree ∙ before_is_result c.args.decisions.now c.nodes.ensures.order c.requires.clear c.requires.dirs
    (subst (λ (l : List Decision). list_any (λ (d : Decision). d.reborn) l ≡ false) c.nodes.ensures.nodes (sym c.is_some_reborn.ensures ∙ c.if-not-is_some_reborn.true)) c.args.id
