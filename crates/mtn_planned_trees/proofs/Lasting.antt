-- A merged tree in which no node is reborn is the same in a revision of any id.
use Rattle.std.specs.List.{list_any}
use Rattle.std.proofs.Common.{◌≡◌, false, sym, ap, ◌∙◌}
use Rattle.mtn_base.specs.declared.id.Id.{Id}
use Rattle.mtn_conflicts.specs.Result.{result_of}
use Rattle.mtn_conflicts.proofs.Unborn.{as_before}
use Rattle.mtn_decide.specs.declared.decision.Decision.{Decision}
use Rattle.mtn_decide.specs.Decisions.{Merge}
use Rattle.mtn_roster.specs.Tree.{in_order}

pub result_stays : (m : Merge) (x y : Id) → list_any (λ (d : Decision). d.reborn) m.nodes ≡ false → result_of m x ≡ result_of m y
result_stays m x y none = ap in_order (as_before m.nodes none x ∙ sym (as_before m.nodes none y))
