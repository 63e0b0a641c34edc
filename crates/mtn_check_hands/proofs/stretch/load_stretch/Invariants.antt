use Rattle.std.specs.Prelude.{IfSome}
use Rattle.std.proofs.Common.{◌≡◌, ◌≤◌, ◌+◌, length}
use Rattle.mtn_ports.specs.Kept.{Stays}
use Rattle.mtn_check_hands.specs.Hands.{AreRead, NoneFrom}
use Rattle.mtn_check_hands.proofs.stretch.load_stretch.Given as goal

abbrev pub invariant-loop-at : goal.invariant-loop-at
invariant-loop-at g l = record {
  stays : Stays g.K.Keeper.contents g.K.Keeper.leaves g.K.Keeper.faults l.fn.keeper l.keeper;
  same : length l.stretch.positions.items ≡ length l.stretch.jobs.items;
  long : l.from + length l.stretch.jobs.items ≡ l.at;
  few : length l.stretch.jobs.items ≤ l.most;
  none : NoneFrom l.at l.hands;
  read : IfSome (g.K.Keeper.contents l.keeper) (λ c. AreRead c l.from l.fn.hands l.stretch.positions.items l.stretch.jobs.items l.hands);
}
