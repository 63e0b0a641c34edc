use Rattle.mtn_merge_laws.proofs.SomeReading as laws
use Rattle.mtn_merge_laws.proofs.some_reading.Goals as goal

pub returns : goal.returns
returns c = laws.some_reading
