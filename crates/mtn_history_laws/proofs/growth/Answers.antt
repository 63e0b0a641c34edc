use Rattle.mtn_history_laws.proofs.Growing.{grown_none, grown_more}
use Rattle.mtn_history_laws.proofs.growth.Goals as goal

pub returns-clause-nothing : goal.returns-clause-nothing
returns-clause-nothing c = grown_none

pub returns-clause-step : goal.returns-clause-step
returns-clause-step c log new grown step = grown_more log new grown step
