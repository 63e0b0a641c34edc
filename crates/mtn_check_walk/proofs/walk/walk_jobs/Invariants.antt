use Rattle.std.proofs.Common.{◌-◌}
use Rattle.std.specs.Prelude.{IfSome}
use Rattle.mtn_ports.specs.Kept.{Stays}
use Rattle.mtn_check_walk.specs.Walks.{IsLaidOut, IsReadBehind}
use Rattle.mtn_check_walk.proofs.walk.walk_jobs.Given as goal

abbrev pub invariant-loop-walk : goal.invariant-loop-walk
invariant-loop-walk g l = record {
  stays : Stays g.K.Keeper.contents g.K.Keeper.leaves g.K.Keeper.faults l.fn.keeper l.keeper;
  read : IfSome (g.K.Keeper.contents l.keeper) (IsReadBehind (g.I.Ident.meaning l.ident) l.count l.walk);
  laid_out : IsLaidOut l.count l.walk;
  held : IfSome (g.K.Keeper.contents l.keeper) (g.E.Errand.holds l.errand l.count);
}

abbrev pub decreases-loop-walk : goal.decreases-loop-walk
decreases-loop-walk g l = l.count - l.walk.at
