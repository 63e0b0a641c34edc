use Rattle.mtn_apply.specs.Index.{IsIndexFrom}
use Rattle.mtn_apply.specs.Old.{tree_in}
use Rattle.mtn_apply.proofs.index.index_of.Given as goal

abbrev pub invariant-loop-left : goal.invariant-loop-left
invariant-loop-left l = IsIndexFrom (tree_in l.old) l.all l.left l.index

abbrev pub decreases-loop-left : goal.decreases-loop-left
decreases-loop-left l = l.left
