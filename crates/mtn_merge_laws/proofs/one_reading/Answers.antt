use Rattle.mtn_merge_laws.proofs.OneReading.{one_text, no_fault_of, one_fault}
use Rattle.mtn_merge_laws.proofs.one_reading.Goals as goal

pub returns : goal.returns
returns c = record { resolutions = one_text; apart = no_fault_of; fault = one_fault }
