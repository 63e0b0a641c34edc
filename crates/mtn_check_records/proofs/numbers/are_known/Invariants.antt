use Rattle.std.proofs.Common.{take}
use Rattle.std.specs.Prelude.{All}
use Rattle.mtn_check_records.specs.Due.{IsKnownIn}
use Rattle.mtn_check_records.proofs.numbers.are_known.Given as goal

abbrev pub invariant-loop-entry : goal.invariant-loop-entry
invariant-loop-entry l = All (IsKnownIn l.below) (take l.entry-index l.entries)
