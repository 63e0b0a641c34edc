use Rattle.std.proofs.Common.{[], take}
use Rattle.mtn_replay.specs.Making.{new_contents}
use Rattle.mtn_sending.specs.Sending.{Adds}
use Rattle.mtn_sending.proofs.brought.new_files.Given as goal

abbrev pub invariant-loop-edge : goal.invariant-loop-edge
invariant-loop-edge l = Adds l.fn.sent l.sent [] l.files.items (new_contents (take l.edge-index l.edges))
