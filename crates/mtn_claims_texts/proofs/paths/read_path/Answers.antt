use Rattle.std.proofs.Common.{rules}
use Rattle.mtn_claims_texts.proofs.paths.read_path.Goals as goal

pub returns-clause-err : goal.returns-clause-err
returns-clause-err c = search rules
