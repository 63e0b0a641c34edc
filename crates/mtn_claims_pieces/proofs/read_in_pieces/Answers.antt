use Rattle.std.proofs.Common.{rules}
use Rattle.mtn_claims_pieces.proofs.read_in_pieces.Goals as goal

pub returns-clause-ok : goal.returns-clause-ok
returns-clause-ok g c = search rules
