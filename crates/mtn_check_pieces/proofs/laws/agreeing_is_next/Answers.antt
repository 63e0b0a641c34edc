use Rattle.mtn_check_pieces.proofs.Marked.{next_marked}
use Rattle.mtn_check_pieces.proofs.laws.agreeing_is_next.Goals as goal

pub returns : goal.returns
returns c = next_marked
