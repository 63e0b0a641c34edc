use Rattle.std.proofs.Common.{◌<◌, ◌≤◌, ⊎_elim, arith}
use Rattle.std.proofs.lemmas.Grind.{common_steps}
use Rattle.mtn_ancestry.specs.Walking.{pending_of}
use Rattle.mtn_ancestry.specs.declared.frontier.Reach.TheVariants.{Left, Right}
use Rattle.mtn_ancestry.proofs.Reaching.{order_of}
use Rattle.mtn_ancestry.proofs.Advancing.{begun_left, begun_right, begun_as, first_left, first_right}
use Rattle.mtn_ancestry.proofs.walk.Walk.begin.Goals as goal
use Rattle.mtn_ancestry.proofs.walk.Walk.begin.Goals.{then-lt+in_ok-add, else-lt+in_ok-add-2}

pub returns-clause-stands : goal.returns-clause-stands
returns-clause-stands c = λ graph low early floor.
    elim c.if-lt.branch [
      | then-lt+in_ok-add w ↦
          let h : c.args.right < c.args.left = grind (arith, common_steps) in
          let t = first_right (pending_of c.new-frontier.result) (pending_of w.add.new.self) c.args.right c.new-frontier.ensures.none w.in_ok-add.ensures.left w.in_ok-add.ensures.right in
          begun_as graph c.args.left c.args.right low c.if-lt.at (c.args.left, Left) c.if-lt.frontier w.add.new.self c.new.result.items c.new-2.result.items
          w.at-is w.frontier-is c.new.ensures.items c.new-2.ensures.items
          (begun_left graph early c.args.left c.args.right low h floor (pending_of w.add.new.self) t.0 t.1)
      | else-lt+in_ok-add-2 w ↦
          let g : c.args.left ≤ c.args.right = grind (arith, common_steps) in
          let h : c.args.left < c.args.right = ⊎_elim (λ l. l) (⊎_elim (λ e. absurd (c.requires e)) (λ l. omega arith)) (order_of c.args.left c.args.right) in
          let t = first_left (pending_of c.new-frontier.result) (pending_of w.add-else-lt.new.self) c.args.left c.new-frontier.ensures.none w.in_ok-add-2.ensures.left w.in_ok-add-2.ensures.right in
          begun_as graph c.args.left c.args.right low c.if-lt.at (c.args.right, Right) c.if-lt.frontier w.add-else-lt.new.self c.new.result.items c.new-2.result.items
          w.at-is w.frontier-is c.new.ensures.items c.new-2.ensures.items
          (begun_right graph early c.args.left c.args.right low h floor (pending_of w.add-else-lt.new.self) t.0 t.1)
    ]
