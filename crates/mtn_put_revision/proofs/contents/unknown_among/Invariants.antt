use Rattle.std.proofs.Common.{◌≡◌, ◌≤◌, ◌+◌, List, ℕ, None, length, take}
use Rattle.mtn_model.specs.State.{State}
use Rattle.mtn_ports.specs.Kept.{Stays}
use Rattle.mtn_ports.specs.Ident.{MakesIds}
use Rattle.mtn_history.specs.Stands.{IsFounded}
use Rattle.mtn_put_revision.specs.Finding.{first_unknown}
use Rattle.mtn_put_revision.specs.Reads.{brought}
use Rattle.mtn_put_revision.proofs.contents.unknown_among.Given as goal

abbrev pub invariant-loop-change : goal.invariant-loop-change
invariant-loop-change g l = record {
  same_reference : l.draft.keeper.ghost_name ≡ l.fn.draft.keeper.ghost_name;
  stays : Stays g.K.Keeper.contents g.K.Keeper.leaves g.K.Keeper.faults l.fn.draft.keeper.now l.draft.keeper.now;
  pending : l.draft.pending ≡ l.fn.draft.pending;
  found : (f : List ℕ → List ℕ) (s : State) → IsFounded f (g.K.Keeper.contents l.draft.keeper.now) l.fn.draft.pending s → first_unknown s.files (take l.change-index l.changes) ≡ None;
  reads : (f : List ℕ → List ℕ) (s : State) → IsFounded f (g.K.Keeper.contents l.draft.keeper.now) l.fn.draft.pending s → MakesIds f → g.K.Keeper.reads l.draft.keeper.now ≤ g.K.Keeper.reads l.fn.draft.keeper.now + length (brought (take l.change-index l.changes));
}
