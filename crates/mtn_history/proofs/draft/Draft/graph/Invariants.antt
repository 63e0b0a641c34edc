use Rattle.std.proofs.Common.{◌≡◌, length}
use Rattle.std.specs.Prelude.{IfSome}
use Rattle.mtn_ports.specs.Kept.{with_all}
use Rattle.mtn_history.specs.Asking.{OnlyAsks}
use Rattle.mtn_history.specs.Logs.{IsReadTo}
use Rattle.mtn_history.proofs.draft.Draft.graph.Given as goal

abbrev pub invariant-loop-at : goal.invariant-loop-at
invariant-loop-at g l = record {
  asks : OnlyAsks g.K.Keeper.contents g.K.Keeper.leaves g.K.Keeper.faults g.K.Keeper.reads l.at l.fn.self l.self;
  long : length l.graph ≡ l.at;
  read : IfSome (g.K.Keeper.contents l.self.keeper.now) (λ c. IsReadTo (with_all c l.fn.self.pending.batch) l.at l.graph);
}
