use Rattle.std.proofs.Common.{rules}
use Rattle.mtn_claims_history.proofs.files.file.Goals as goal

pub returns-clause-asks : goal.returns-clause-asks
returns-clause-asks g c = search rules

pub returns-clause-finds : goal.returns-clause-finds
returns-clause-finds g c = search rules

pub returns-clause-sound : goal.returns-clause-sound
returns-clause-sound g c = search rules

pub returns-clause-failed : goal.returns-clause-failed
returns-clause-failed g c = search rules
