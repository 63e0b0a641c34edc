use Rattle.std.proofs.Common.{◌≡◌, ◌<◌, ◌≤◌, ◌+◌, List, [], ℕ, None, length, take}
use Rattle.std.specs.Prelude.{All}
use Rattle.mtn_changes.specs.declared.change.Edge.{Edge}
use Rattle.mtn_replay.specs.Making.{parents_of}
use Rattle.mtn_model.specs.State.{State}
use Rattle.mtn_ports.specs.Kept.{Stays}
use Rattle.mtn_history.specs.Stands.{IsFounded}
use Rattle.mtn_put_revision.proofs.Looking.{NoneLost}
use Rattle.mtn_put_revision.proofs.places.places_of.Given as goal

abbrev pub invariant-loop-edge : goal.invariant-loop-edge
invariant-loop-edge g l = record {
  same_reference : l.draft.keeper.ghost_name ≡ l.fn.draft.keeper.ghost_name;
  stays : Stays g.K.Keeper.contents g.K.Keeper.leaves g.K.Keeper.faults l.fn.draft.keeper.now l.draft.keeper.now;
  pending : l.draft.pending ≡ l.fn.draft.pending;
  reads : g.K.Keeper.reads l.draft.keeper.now ≤ g.K.Keeper.reads l.fn.draft.keeper.now + l.edge-index;
  few : length l.places.items ≤ l.edge-index;
  below : All (λ p. p < l.fn.draft.pending.count) l.places.items;
  none : l.places.items ≡ [] → All (λ (e : Edge). e.parent ≡ None) (take l.edge-index l.edges);
  places : (f : List ℕ → List ℕ) (s : State) → (d : IsFounded f (g.K.Keeper.contents l.draft.keeper.now) l.fn.draft.pending s) → l.places.items ≡ parents_of d.stands.history (take l.edge-index l.edges);
  known : (f : List ℕ → List ℕ) (s : State) → (d : IsFounded f (g.K.Keeper.contents l.draft.keeper.now) l.fn.draft.pending s) → NoneLost d.stands.history (take l.edge-index l.edges);
}
