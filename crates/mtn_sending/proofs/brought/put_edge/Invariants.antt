use Rattle.std.specs.Prelude.{filter_map}
use Rattle.std.proofs.Common.{take}
use Rattle.mtn_replay.specs.Making.{new_content}
use Rattle.mtn_sending.specs.Sending.{Adds}
use Rattle.mtn_sending.proofs.brought.put_edge.Given as goal

abbrev pub invariant-loop-change : goal.invariant-loop-change
invariant-loop-change l = Adds l.fn.sent l.sent l.fn.files.items l.files.items (filter_map new_content (take l.change-index l.changes))
