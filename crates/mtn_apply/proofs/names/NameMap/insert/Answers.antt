-- A name whose mark is still there is another than the new one.
use Rattle.std.proofs.Common.{ℕ, Bool, List, cond, Some, ap, ◌∙◌}
use Rattle.mtn_base.specs.Names.{same_name}
use Rattle.mtn_base.specs.declared.name.NodeName.{NodeName}
use Rattle.mtn_apply.specs.Maps.{of_name}
use Rattle.mtn_apply.proofs.Positions.{at_name}
use Rattle.mtn_apply.proofs.Spared.{still_name}
use Rattle.mtn_apply.proofs.names.NameMap.insert.Goals as goal

pub invariant_of-self-2 : goal.invariant_of-self-2
invariant_of-self-2 c = λ n h. still_name c.take_spot.new.spare.items c.args.name n c.args.at (of_name c.self.inside.map.entries n) (of_name c.insert.new.self.entries n) (c.in_ok-insert.ensures.updates.0 n) c.take_spot.ensures.taken h (c.self.invariant n (c.take_spot.ensures.others n.path h))

pub returns-clause-updates : goal.returns-clause-updates
returns-clause-updates c = λ n.
    c.in_ok-insert.ensures.updates.0 n
    ∙ ap (λ (b : Bool). cond b (Some c.args.at) (of_name c.self.inside.map.entries n)) (at_name c.args.name n)
    ∙ ap (λ (l : List (NodeName × ℕ)). cond (same_name c.args.name n) (Some c.args.at) (of_name l n)) c.self.view_is
