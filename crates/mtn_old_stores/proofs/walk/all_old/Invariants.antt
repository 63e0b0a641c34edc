use Rattle.std.specs.Prelude.{IfSome}
use Rattle.mtn_ports.specs.Kept.{Stays}
use Rattle.mtn_old_stores.proofs.Counting.{AreOnce}
use Rattle.mtn_old_stores.proofs.WalkLemmas.{AreRead}
use Rattle.mtn_old_stores.proofs.walk.all_old.Given as goal

abbrev pub invariant-loop : goal.invariant-loop
invariant-loop g l = record {
  stays : Stays g.K.Keeper.contents g.K.Keeper.leaves g.K.Keeper.faults l.fn.keeper l.keeper;
  so_far : IfSome (g.K.Keeper.contents l.keeper) (λ c. AreRead c l.last l.certs.items);
  once : AreOnce l.last l.certs.items;
}
