use Rattle.std.proofs.Common.{rules}
use Rattle.mtn_claims_store.proofs.words.step_words.Goals as goal

pub returns : goal.returns
returns c = search rules
