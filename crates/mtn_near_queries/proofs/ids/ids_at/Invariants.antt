use Rattle.std.proofs.Common.{List, ℕ, take}
use Rattle.mtn_history.specs.Asking.{OnlyAsks}
use Rattle.mtn_history.specs.Stands.{IsFounded}
use Rattle.mtn_model.specs.State.{State}
use Rattle.mtn_near_queries.specs.Finding.{AreNamedAt}
use Rattle.mtn_near_queries.proofs.ids.ids_at.Given as goal

abbrev pub invariant-loop-at : goal.invariant-loop-at
invariant-loop-at g l = record {
  asks : OnlyAsks g.K.Keeper.contents g.K.Keeper.leaves g.K.Keeper.faults g.K.Keeper.reads l.at-index l.fn.draft l.draft;
  found : (f : List ℕ → List ℕ) (s : State) (d : IsFounded f (g.K.Keeper.contents l.draft.keeper.now) l.fn.draft.pending s) →
      AreNamedAt d.stands.history (take l.at-index l.positions) l.ids.items;
}
