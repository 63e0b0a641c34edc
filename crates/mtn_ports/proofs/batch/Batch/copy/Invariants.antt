use Rattle.std.proofs.Common.{◌≡◌, take}
use Rattle.mtn_ports.proofs.batch.Batch.copy.Given as goal

-- copies of the records so far
abbrev pub invariant-loop-put : goal.invariant-loop-put
invariant-loop-put l = l.batch ≡ take l.put-index l.puts
