use Rattle.mtn_merge_laws.proofs.SomeOverride as laws
use Rattle.mtn_merge_laws.proofs.some_override.Goals as goal

pub returns : goal.returns
returns c = laws.some_override
