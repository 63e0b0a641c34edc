use Rattle.std.proofs.Common.{◌≡◌, List, ℕ, None, take}
use Rattle.mtn_model.specs.State.{State}
use Rattle.mtn_ports.specs.Kept.{Stays}
use Rattle.mtn_history.specs.Stands.{IsFounded}
use Rattle.mtn_merge.specs.Given.{first_unknown}
use Rattle.mtn_merge.proofs.given.unknown_pick.Given as goal

abbrev pub invariant-loop-resolution : goal.invariant-loop-resolution
invariant-loop-resolution g l = record {
  same_reference : l.draft.keeper.ghost_name ≡ l.fn.draft.keeper.ghost_name;
  stays : Stays g.K.Keeper.contents g.K.Keeper.leaves g.K.Keeper.faults l.fn.draft.keeper.now l.draft.keeper.now;
  pending : l.draft.pending ≡ l.fn.draft.pending;
  found : (f : List ℕ → List ℕ) (s : State) → IsFounded f (g.K.Keeper.contents l.draft.keeper.now) l.fn.draft.pending s → first_unknown s.files (take l.resolution-index l.resolutions) ≡ None;
}
