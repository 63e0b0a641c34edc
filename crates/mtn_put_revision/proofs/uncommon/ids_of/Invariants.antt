use Rattle.std.proofs.Common.{List, ℕ, take}
use Rattle.mtn_model.specs.State.{State}
use Rattle.mtn_history.specs.Stands.{IsFounded}
use Rattle.mtn_put_revision.specs.Finding.{AreIdsAt}
use Rattle.mtn_put_revision.proofs.uncommon.ids_of.Given as goal

abbrev pub invariant-loop-at : goal.invariant-loop-at
invariant-loop-at g l = record {
  ids : (f : List ℕ → List ℕ) (s : State) → (d : IsFounded f (g.K.Keeper.contents l.draft.keeper.now) l.draft.pending s) → AreIdsAt d.stands.history (take l.at-index l.positions) l.ids;
}
