use Rattle.mtn_check_pieces_laws.proofs.Behind.{due_agrees}
use Rattle.mtn_check_pieces_laws.proofs.laws.due_agrees.Goals as goal

pub returns : goal.returns
returns c = due_agrees
