use Rattle.mtn_imports.proofs.SomePackets.{packets_or_fault}
use Rattle.mtn_imports.proofs.some_reading.Goals as goal

pub returns : goal.returns
returns c = packets_or_fault
