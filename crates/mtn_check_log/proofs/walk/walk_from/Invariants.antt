use Rattle.std.specs.Prelude.{IfSome}
use Rattle.mtn_ports.specs.Kept.{Stays}
use Rattle.mtn_history.specs.Memory.{Knows}
use Rattle.mtn_check_log.specs.Below.{below}
use Rattle.mtn_check_log.specs.Positions.{IsWalkedTo}
use Rattle.mtn_check_log.proofs.walk.walk_from.Given as goal

abbrev pub invariant-loop-at : goal.invariant-loop-at
invariant-loop-at g l = record {
  stays : Stays g.K.Keeper.contents g.K.Keeper.leaves g.K.Keeper.faults l.fn.keeper l.keeper;
  walked : IfSome (g.K.Keeper.contents l.keeper) (IsWalkedTo (g.I.Ident.meaning l.ident) l.count l.at);
  knows : IfSome (g.K.Keeper.contents l.keeper) (λ c. Knows l.memory (below l.at c));
}
