use Rattle.std.specs.Prelude.{fold}
use Rattle.std.proofs.Common.{◌≡◌, ◌<◌, take}
use Rattle.mtn_apply.specs.Spare.{next_number}
use Rattle.mtn_apply.proofs.spare.number_of.Given as goal

abbrev pub invariant-loop-byte : goal.invariant-loop-byte
invariant-loop-byte l = (l.number ≡ fold next_number 0 (take l.byte-index l.bytes)) × (l.number < 65536)
