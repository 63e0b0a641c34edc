use Rattle.std.specs.Prelude.{IfSome}
use Rattle.std.proofs.Common.{◌<◌}
use Rattle.mtn_ports.specs.Kept.{AreKeyed, Stays}
use Rattle.mtn_check.specs.Tables.{AreEmpty}
use Rattle.mtn_check.proofs.empty.check_empty.Given as goal

abbrev pub invariant-loop-table : goal.invariant-loop-table
invariant-loop-table g l = record {
  stays : Stays g.K.Keeper.contents g.K.Keeper.leaves g.K.Keeper.faults l.fn.keeper l.keeper;
  none : IfSome (g.K.Keeper.contents l.keeper) (AreEmpty l.from l.table);
  keyed : l.from < l.table → IfSome (g.K.Keeper.contents l.keeper) AreKeyed;
}
