use Rattle.mtn_packets.proofs.Inputs as inputs
use Rattle.mtn_packets.proofs.laws.one_fault.Goals as goal

pub returns-clause-one : goal.returns-clause-one
returns-clause-one c = inputs.one_fault

pub returns-clause-apart : goal.returns-clause-apart
returns-clause-apart c = inputs.no_failure
