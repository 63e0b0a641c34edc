use Rattle.std.proofs.Common.{◌≡◌, ◌++◌}
use Rattle.std.specs.Vec.Iter.{into_iter_items}
use Rattle.mtn_ports.proofs.batch.Batch.add_all.Given as goal

-- the records so far and those that are left are all, and those so far stand behind what was there
abbrev pub invariant-loop-put : goal.invariant-loop-put
invariant-loop-put l = (l.yielded ++ into_iter_items l.put-iterator ≡ l.fn.puts.items) × (l.self ≡ l.fn.self ++ l.yielded)
