use Rattle.mtn_history_laws.proofs.Born.{born_here, birth_kept}
use Rattle.mtn_history_laws.proofs.births.Goals as goal

pub returns-clause-here : goal.returns-clause-here
returns-clause-here c log new grown n e h none = born_here log new grown n e h none

pub returns-clause-kept : goal.returns-clause-kept
returns-clause-kept c log new grown n b l t = birth_kept log new grown n b l t
