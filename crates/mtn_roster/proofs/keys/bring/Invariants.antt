-- The entries are those of the start in some order.
use Rattle.std.specs.List.Sorted.{IsPermutation}
use Rattle.mtn_roster.proofs.keys.bring.Given as goal

abbrev pub invariant-loop-first : goal.invariant-loop-first
invariant-loop-first l = IsPermutation l.initial.entries l.entries
