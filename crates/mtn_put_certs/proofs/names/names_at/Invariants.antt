use Rattle.std.proofs.Common.{◌≡◌, ℕ, List, Some, take}
use Rattle.mtn_model.specs.State.{State}
use Rattle.mtn_model.specs.Table.{Contents}
use Rattle.mtn_ports.specs.Kept.{Stays}
use Rattle.mtn_history.specs.Stands.{IsDraft}
use Rattle.mtn_put_certs.specs.Reading.{names_under}
use Rattle.mtn_put_certs.proofs.names.names_at.Given as goal

abbrev pub invariant-loop-id : goal.invariant-loop-id
invariant-loop-id g l = record {
  same_reference : l.draft.keeper.ghost_name ≡ l.fn.draft.keeper.ghost_name;
  stays : Stays g.K.Keeper.contents g.K.Keeper.leaves g.K.Keeper.faults l.fn.draft.keeper.now l.draft.keeper.now;
  pending : l.draft.pending ≡ l.fn.draft.pending;
  so_far : (f : List ℕ → List ℕ) (c : Contents) (s : State) → g.K.Keeper.contents l.draft.keeper.now ≡ Some c → IsDraft f c l.fn.draft.pending s → l.names.items ≡ names_under s.keys (take l.id-index l.ids);
}
