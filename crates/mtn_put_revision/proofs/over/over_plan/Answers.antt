-- The planned tree is the one that is made.
use Rattle.std.proofs.Common.{Option, subst}
use Rattle.std.specs.Prelude.{IfSome}
use Rattle.mtn_roster.specs.Tree.{Tree}
use Rattle.mtn_put_revision.specs.Keeping.{IsPlanned}
use Rattle.mtn_put_revision.proofs.Planning.{planned_fine, planned_tree}
use Rattle.mtn_put_revision.proofs.over.over_plan.Goals as goal

pub returns-in_ok-stops-in-Some-clause-accepts : goal.returns-in_ok-stops-in-Some-clause-accepts
returns-in_ok-stops-in-Some-clause-accepts g c = λ f s d plan new.
    let plan_is = subst (λ (o : Option Tree). IfSome o (λ t. IsPlanned f s.files d.stands.history c.args.fresh.now.text.now t)) c.in-Some.is plan in
    c.over_tree.ensures.accepts f s d new (planned_fine f s.files d.stands.history c.args.fresh.now c.in-Some.tree plan_is new) (planned_tree f s.files d.stands.history c.args.fresh.now c.in-Some.tree plan_is new)
