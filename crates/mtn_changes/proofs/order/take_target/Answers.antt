use Rattle.std.specs.Prelude.{true, not}
use Rattle.std.specs.BTreeSet.{contains, Updates}
use Rattle.std.proofs.Common.{ap, subst, ◌∙◌}
use Rattle.mtn_changes.specs.declared.target.Target.{Target}
use Rattle.mtn_changes.specs.Targets.{target_cmp}
use Rattle.mtn_changes.proofs.order.take_target.Goals as goal

pub returns-clause-fresh : goal.returns-clause-fresh
returns-clause-fresh c = c.in-Ok.ensures.added ∙ ap (λ (s : Target). not (contains target_cmp c.args.targets.now s)) c.in_ok-target.ensures

pub returns-clause-taken : goal.returns-clause-taken
returns-clause-taken c = subst (λ (s : Target). Updates target_cmp c.args.targets.now c.insert.new.self s true) c.in_ok-target.ensures c.in-Ok.ensures.updates
