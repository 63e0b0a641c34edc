use Rattle.std.proofs.Common.{length}
use Rattle.mtn_apply.specs.Index.{old_of, changes_of}
use Rattle.mtn_apply.specs.Edits.{held}
use Rattle.mtn_apply.proofs.Chains.{IsLeft, to_go}
use Rattle.mtn_apply.proofs.edits.edit.Given as goal

abbrev pub invariant-loop-next : goal.invariant-loop-next
invariant-loop-next l = IsLeft (old_of l.edge) (changes_of l.edge) l.fn.new l.fn.entry l.next (held l.draft l.fn.entry)

abbrev pub decreases-loop-next : goal.decreases-loop-next
decreases-loop-next l = to_go (length (changes_of l.edge)) l.next
