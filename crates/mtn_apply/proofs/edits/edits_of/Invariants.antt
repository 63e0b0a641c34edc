use Rattle.mtn_apply.specs.Index.{old_of, changes_of}
use Rattle.mtn_apply.proofs.Links.{AreLinks}
use Rattle.mtn_apply.proofs.edits.edits_of.Given as goal

abbrev pub invariant-loop-left : goal.invariant-loop-left
invariant-loop-left l = AreLinks (old_of l.edge) (changes_of l.edge) l.new l.left l.first l.next.items

abbrev pub decreases-loop-left : goal.decreases-loop-left
decreases-loop-left l = l.left
