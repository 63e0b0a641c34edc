-- A path whose mark is still there is another than the new one.
use Rattle.std.proofs.Common.{ℕ, Bool, List, cond, Some, ap, ◌∙◌}
use Rattle.mtn_base.specs.Names.{same_path}
use Rattle.mtn_apply.specs.Maps.{of_path}
use Rattle.mtn_apply.proofs.Positions.{at_path}
use Rattle.mtn_apply.proofs.Spared.{still_path}
use Rattle.mtn_apply.proofs.names.PathMap.insert.Goals as goal

pub invariant_of-self-2 : goal.invariant_of-self-2
invariant_of-self-2 c = λ q h. still_path c.take_spot.new.spare.items c.args.path q c.args.at (of_path c.self.inside.map.entries q) (of_path c.insert.new.self.entries q) (c.in_ok-insert.ensures.updates.0 q) c.take_spot.ensures.taken h (c.self.invariant q (c.take_spot.ensures.others q h))

pub returns : goal.returns
returns c = λ q.
    c.in_ok-insert.ensures.updates.0 q
    ∙ ap (λ (b : Bool). cond b (Some c.args.at) (of_path c.self.inside.map.entries q)) (at_path c.args.path q)
    ∙ ap (λ (l : List (List (List ℕ) × ℕ)). cond (same_path c.args.path q) (Some c.args.at) (of_path l q)) c.self.view_is
