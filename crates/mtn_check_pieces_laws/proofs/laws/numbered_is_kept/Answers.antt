use Rattle.mtn_check_pieces_laws.proofs.Behind.{numbered_is_kept}
use Rattle.mtn_check_pieces_laws.proofs.laws.numbered_is_kept.Goals as goal

pub returns : goal.returns
returns c = numbered_is_kept
