use Rattle.std.proofs.Common.{◌≡◌, ◌≤◌, ◌+◌, List, ℕ, None, length, take}
use Rattle.mtn_model.specs.State.{State}
use Rattle.mtn_replay.specs.Making.{new_contents}
use Rattle.mtn_ports.specs.Kept.{Stays}
use Rattle.mtn_ports.specs.Ident.{MakesIds}
use Rattle.mtn_history.specs.Stands.{IsFounded}
use Rattle.mtn_put_revision.proofs.Looking.{unknown_of_edges}
use Rattle.mtn_put_revision.proofs.contents.unknown_content.Given as goal

abbrev pub invariant-loop-edge : goal.invariant-loop-edge
invariant-loop-edge g l = record {
  same_reference : l.draft.keeper.ghost_name ≡ l.fn.draft.keeper.ghost_name;
  stays : Stays g.K.Keeper.contents g.K.Keeper.leaves g.K.Keeper.faults l.fn.draft.keeper.now l.draft.keeper.now;
  pending : l.draft.pending ≡ l.fn.draft.pending;
  found : (f : List ℕ → List ℕ) (s : State) → IsFounded f (g.K.Keeper.contents l.draft.keeper.now) l.fn.draft.pending s → unknown_of_edges s.files (take l.edge-index l.edges) ≡ None;
  reads : (f : List ℕ → List ℕ) (s : State) → IsFounded f (g.K.Keeper.contents l.draft.keeper.now) l.fn.draft.pending s → MakesIds f → g.K.Keeper.reads l.draft.keeper.now ≤ g.K.Keeper.reads l.fn.draft.keeper.now + length (new_contents (take l.edge-index l.edges));
}
