-- The closure compares the names, and the names ascend.
use Rattle.std.proofs.Common.{rules, Ok, Err, ◌∙◌}
use Rattle.std.proofs.lemmas.Fn.{always_returns_same}
use Rattle.mtn_base.specs.Names.{name_cmp, same_name}
use Rattle.mtn_marking.proofs.Keyed.{halved}
use Rattle.mtn_base.proofs.Orders.{names_total, exact_names}
use Rattle.mtn_base.proofs.Tests.{same_name-is, same_name-self}
use Rattle.mtn_decide.specs.declared.decision.Decision.{Decision}
use Rattle.mtn_merge.proofs.dirs.decision_at.Goals as goal

pub returns-in-Ok : goal.returns-in-Ok
returns-in-Ok c =
    c.node_at.ensures
    ∙ halved name_cmp (λ (d : Decision). d.name) same_name names_total same_name-is same_name-self exact_names c.args.nodes.now c.requires c.args.name.now (Ok c.in-Ok.place) c.in-Ok.ensures.bound
    (c.in-Ok.ensures.position (λ (d : Decision). name_cmp d.name c.args.name.now) (always_returns_same _ _ _ (λ a r g called. (search rules, search rules))))

pub returns-in-Err : goal.returns-in-Err
returns-in-Err c =
    halved name_cmp (λ (d : Decision). d.name) same_name names_total same_name-is same_name-self exact_names c.args.nodes.now c.requires c.args.name.now (Err c.in-Err.field-0) c.in-Err.ensures.bound
    (c.in-Err.ensures.position (λ (d : Decision). name_cmp d.name c.args.name.now) (always_returns_same _ _ _ (λ a r g called. (search rules, search rules))))
