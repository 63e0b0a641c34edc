use Rattle.mtn_history.proofs.Remembering.{nothing_known}
use Rattle.mtn_history.proofs.memory.Memory.new.Goals as goal

pub returns : goal.returns
returns c x n = nothing_known c.new.result c.new.ensures.rosters c.new.ensures.log x n
