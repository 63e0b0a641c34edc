use Rattle.std.proofs.Common.{rules}
use Rattle.mtn_claims_texts.proofs.keepers.next_record.Goals as goal

pub returns-clause-found : goal.returns-clause-found
returns-clause-found g c = search rules

pub returns-clause-told : goal.returns-clause-told
returns-clause-told g c = search rules
