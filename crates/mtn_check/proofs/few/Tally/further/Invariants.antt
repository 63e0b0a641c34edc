use Rattle.std.specs.Prelude.{IfSome}
use Rattle.mtn_ports.specs.Kept.{Stays}
use Rattle.mtn_check.specs.Tables.{IsTally}
use Rattle.mtn_check.proofs.few.Tally.further.Given as goal

abbrev pub invariant-loop : goal.invariant-loop
invariant-loop g l = record {
  stays : Stays g.K.Keeper.contents g.K.Keeper.leaves g.K.Keeper.faults l.fn.keeper l.keeper;
  tally : IfSome (g.K.Keeper.contents l.keeper) (λ c. IsTally l.table l.most c (record { found = l.found; last = l.last }));
}
