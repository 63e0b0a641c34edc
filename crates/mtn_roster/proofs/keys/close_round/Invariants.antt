-- The entries are those of the start in some order.
use Rattle.std.specs.List.Sorted.{IsPermutation}
use Rattle.mtn_roster.proofs.keys.close_round.Given as goal

abbrev pub invariant-loop : goal.invariant-loop
invariant-loop l = IsPermutation l.initial.entries l.entries
