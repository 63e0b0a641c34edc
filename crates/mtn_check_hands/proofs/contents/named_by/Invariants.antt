use Rattle.std.proofs.Common.{◌≡◌, take}
use Rattle.mtn_check_records.specs.Reading.{named_in}
use Rattle.mtn_check_hands.proofs.contents.named_by.Given as goal

abbrev pub invariant-loop-edge : goal.invariant-loop-edge
invariant-loop-edge l = l.ids.items ≡ named_in (take l.edge-index l.edges)
