use Rattle.std.proofs.Common.{◌≡◌, ◌≤◌, length}
use Rattle.std.specs.Prelude.{IfSome}
use Rattle.mtn_ports.specs.Kept.{with_all}
use Rattle.mtn_history.specs.Asking.{OnlyAsks}
use Rattle.mtn_history.specs.Rosters.{IsOnWalk}
use Rattle.mtn_history.proofs.draft.Draft.chain.Given as goal

abbrev pub invariant-loop-depth : goal.invariant-loop-depth
invariant-loop-depth g l = record {
  asks : OnlyAsks g.K.Keeper.contents g.K.Keeper.leaves g.K.Keeper.faults g.K.Keeper.reads l.depth l.fn.self l.self;
  long : length l.records.items ≡ l.depth;
  low : l.next ≤ l.fn.at;
  walk : IfSome (g.K.Keeper.contents l.self.keeper.now) (λ c. IsOnWalk (with_all c l.fn.self.pending.batch) l.fn.at l.fn.top l.beside l.records.items l.next);
}
