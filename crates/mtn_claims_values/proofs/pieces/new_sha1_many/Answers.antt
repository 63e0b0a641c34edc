use Rattle.std.proofs.Common.{rules}
use Rattle.mtn_claims_values.proofs.pieces.new_sha1_many.Goals as goal

pub returns-clause-pieces : goal.returns-clause-pieces
returns-clause-pieces g c = search rules
