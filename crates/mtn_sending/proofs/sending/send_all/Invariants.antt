use Rattle.std.specs.Prelude.{Contains}
use Rattle.std.proofs.Common.{◌≡◌, List, ℕ, take}
use Rattle.mtn_answers.specs.Queries.{IsHeld}
use Rattle.mtn_base.specs.declared.id.Id.{Id}
use Rattle.mtn_history.specs.Stands.{IsFounded}
use Rattle.mtn_model.specs.State.{State}
use Rattle.mtn_ports.specs.Kept.{Stays}
use Rattle.mtn_sending.specs.Sending.{WritesSoFar}
use Rattle.mtn_sending.proofs.sending.send_all.Given as goal

abbrev pub invariant-loop-id : goal.invariant-loop-id
invariant-loop-id g l = record {
  same_reference : l.draft.keeper.ghost_name ≡ l.fn.draft.keeper.ghost_name;
  stays : Stays g.K.Keeper.contents g.K.Keeper.leaves g.K.Keeper.faults l.fn.draft.keeper.now l.draft.keeper.now;
  pending : l.draft.pending ≡ l.fn.draft.pending;
  found : (f : List ℕ → List ℕ) (s : State) → (d : IsFounded f (g.K.Keeper.contents l.draft.keeper.now) l.fn.draft.pending s) → ((x : Id) → Contains l.ids x → IsHeld d.stands.history x) →
      WritesSoFar s (take l.id-index l.ids) l.sent l.fn.out.items l.out.items;
}
