use Rattle.mtn_marking.proofs.Staying.{marks_kept, marked_kept}
use Rattle.mtn_marking.proofs.laws.marks_stay.Goals as goal

pub returns-clause-scalar : goal.returns-clause-scalar
returns-clause-scalar c log next r s m grown before is = marks_kept log next grown r before s m is

pub returns-clause-tree : goal.returns-clause-tree
returns-clause-tree c log next r t grown before is = marked_kept log next grown r before t is
