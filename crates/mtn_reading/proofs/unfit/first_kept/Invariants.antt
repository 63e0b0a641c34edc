use Rattle.std.specs.Prelude.{IfSome}
use Rattle.std.proofs.Common.{◌≡◌, ◌<◌}
use Rattle.mtn_ports.specs.Kept.{AreKeyed, Stays}
use Rattle.mtn_reading.proofs.UnfitReading.{AreBare}
use Rattle.mtn_reading.proofs.unfit.first_kept.Given as goal

abbrev pub invariant-loop-table : goal.invariant-loop-table
invariant-loop-table g l = record {
  same_reference : l.draft.keeper.ghost_name ≡ l.fn.draft.keeper.ghost_name;
  stays : Stays g.K.Keeper.contents g.K.Keeper.leaves g.K.Keeper.faults l.fn.draft.keeper.now l.draft.keeper.now;
  pending : l.draft.pending ≡ l.fn.draft.pending;
  none : IfSome (g.K.Keeper.contents l.draft.keeper.now) (AreBare l.table);
  keyed : 0 < l.table → IfSome (g.K.Keeper.contents l.draft.keeper.now) AreKeyed;
}
