use Rattle.std.proofs.Common.{List, refl, subst}
use Rattle.mtn_changes.specs.declared.change.Change.{Change}
use Rattle.mtn_changes.specs.Targets.{AreApart}
use Rattle.mtn_changes.proofs.lawful.where_apart.Goals as goal

pub returns : goal.returns
returns c = (subst (λ (cs : List Change). AreApart cs) c.as_slice.ensures (c.in_ok-are_apart.ensures c.if-not-branch.false), refl, refl)
