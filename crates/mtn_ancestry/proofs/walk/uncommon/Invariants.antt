use Rattle.std.specs.Prelude.{max, suc}
use Rattle.mtn_ancestry.specs.Walking.{pending_of, AreUpTo, IsMatched, IsNextBelow}
use Rattle.mtn_ancestry.proofs.Asking.{IsAsking, steps_left}
use Rattle.mtn_ancestry.proofs.walk.uncommon.Given as goal

abbrev pub invariant-loop-next : goal.invariant-loop-next
invariant-loop-next g l = record {
  matched : IsMatched l.walk.frontier;
  next_up_to : IsNextBelow l.next (suc (max l.fn.left l.fn.right));
  up_to : AreUpTo (max l.fn.left l.fn.right) l.walk.left.items l.walk.right.items;
  asking : IsAsking g.row.P.Denot g.P.Parents.tells g.P.Parents.asked g.P.Parents.stays l.initial.graph l.graph l.fn.left l.fn.right
      l.next (pending_of l.walk.frontier) l.walk.left.items l.walk.right.items;
}

abbrev pub decreases-loop-next : goal.decreases-loop-next
decreases-loop-next g l = steps_left l.next
