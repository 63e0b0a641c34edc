use Rattle.std.proofs.Common.{List, ℕ, take}
use Rattle.std.specs.List.{AllZip}
use Rattle.mtn_history_laws.specs.History.{IsPlaceOf}
use Rattle.mtn_model.specs.State.{State}
use Rattle.mtn_history.specs.Asking.{OnlyAsks}
use Rattle.mtn_history.specs.Stands.{IsFounded}
use Rattle.mtn_history.proofs.draft.Draft.ids_at.Given as goal

abbrev pub invariant-loop-at : goal.invariant-loop-at
invariant-loop-at g l = record {
  asks : OnlyAsks g.K.Keeper.contents g.K.Keeper.leaves g.K.Keeper.faults g.K.Keeper.reads l.at-index l.fn.self l.self;
  found : (f : List ℕ → List ℕ) (s : State) (d : IsFounded f (g.K.Keeper.contents l.self.keeper.now) l.fn.self.pending s) → AllZip (λ at id. IsPlaceOf d.stands.history id at) (take l.at-index l.places) l.ids.items;
}
