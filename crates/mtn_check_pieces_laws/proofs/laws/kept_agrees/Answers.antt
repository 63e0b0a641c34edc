use Rattle.mtn_check_pieces_laws.proofs.Behind.{kept_agrees}
use Rattle.mtn_check_pieces_laws.proofs.laws.kept_agrees.Goals as goal

pub returns : goal.returns
returns c = kept_agrees
