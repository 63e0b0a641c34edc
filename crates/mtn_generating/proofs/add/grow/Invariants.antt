use Rattle.std.proofs.Common.{◌≡◌, Some}
use Rattle.mtn_history.specs.Stands.{IsDraft}
use Rattle.mtn_model.specs.State.{State}
use Rattle.mtn_model.specs.Table.{Contents}
use Rattle.mtn_ports.specs.Kept.{Stays}
use Rattle.mtn_generating.proofs.GrowLemmas.{HasGrown}
use Rattle.mtn_generating.proofs.add.grow.Given as goal

abbrev pub invariant-loop-before : goal.invariant-loop-before
invariant-loop-before g l = record {
  same_reference : l.draft.keeper.ghost_name ≡ l.fn.draft.keeper.ghost_name;
  stays : Stays g.K.Keeper.contents g.K.Keeper.leaves g.K.Keeper.faults l.fn.draft.keeper.now l.draft.keeper.now;
  grew : (c : Contents) (s : State) → g.K.Keeper.contents l.draft.keeper.now ≡ Some c → IsDraft (g.I.Ident.meaning l.fn.ident) c l.fn.draft.pending s →
      HasGrown (g.I.Ident.meaning l.fn.ident) c s l.before l.tips l.draft.pending;
}
