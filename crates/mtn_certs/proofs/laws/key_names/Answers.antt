use Rattle.mtn_certs.proofs.Names.{name_tells}
use Rattle.mtn_certs.proofs.laws.key_names.Goals as goal

pub returns : goal.returns
returns c = name_tells
