use Rattle.std.proofs.Common.{◌≡◌, ◌++◌, List, ℕ, map, take}
use Rattle.mtn_exports.specs.Exports.{file_packet, packets_text}
use Rattle.mtn_history.specs.Stands.{IsFounded}
use Rattle.mtn_model.specs.State.{State}
use Rattle.mtn_ports.specs.Kept.{Stays}
use Rattle.mtn_sending.specs.Sending.{AreHeld}
use Rattle.mtn_sending.proofs.files.write_files.Given as goal

abbrev pub invariant-loop-id : goal.invariant-loop-id
invariant-loop-id g l = record {
  same_reference : l.draft.keeper.ghost_name ≡ l.fn.draft.keeper.ghost_name;
  stays : Stays g.K.Keeper.contents g.K.Keeper.leaves g.K.Keeper.faults l.fn.draft.keeper.now l.draft.keeper.now;
  pending : l.draft.pending ≡ l.fn.draft.pending;
  found : (f : List ℕ → List ℕ) (s : State) → IsFounded f (g.K.Keeper.contents l.draft.keeper.now) l.fn.draft.pending s → AreHeld s l.ids → l.out.items ≡ l.fn.out.items ++ packets_text (map (file_packet s) (take l.id-index l.ids));
}
