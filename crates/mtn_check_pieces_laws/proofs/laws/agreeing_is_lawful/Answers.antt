use Rattle.mtn_check_pieces_laws.proofs.Behind.{agreeing_is_lawful}
use Rattle.mtn_check_pieces_laws.proofs.laws.agreeing_is_lawful.Goals as goal

pub returns : goal.returns
returns c = agreeing_is_lawful
