use Rattle.std.specs.Prelude.{IfSome}
use Rattle.mtn_ports.specs.Kept.{Stays}
use Rattle.std.proofs.Common.{◌≤◌}
use Rattle.mtn_check.specs.Tables.{IsCountTo}
use Rattle.mtn_check.proofs.few.Tally.has_at_most.Given as goal

abbrev pub invariant-loop-found : goal.invariant-loop-found
invariant-loop-found g l = record {
  stays : Stays g.K.Keeper.contents g.K.Keeper.leaves g.K.Keeper.faults l.fn.keeper l.keeper;
  so_far : IfSome (g.K.Keeper.contents l.keeper) (λ c. IsCountTo l.table c l._found l.last.items);
  within : IfSome (g.K.Keeper.contents l.keeper) (λ _. l._found ≤ l.most);
}
