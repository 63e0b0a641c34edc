use Rattle.std.proofs.Common.{◌≡◌, ◌++◌, length, Some}
use Rattle.std.specs.Vec.Iter.{into_iter_items, into_iter_len}
use Rattle.mtn_history.specs.Stands.{IsDraft}
use Rattle.mtn_model.specs.State.{State}
use Rattle.mtn_model.specs.Table.{Contents}
use Rattle.mtn_ports.specs.Kept.{Stays}
use Rattle.mtn_generating.proofs.FileLemmas.{HasPut}
use Rattle.mtn_generating.proofs.files.put_files.Given as goal

abbrev pub invariant-loop-text : goal.invariant-loop-text
invariant-loop-text g l = record {
  all : l.yielded ++ into_iter_items l.text-iterator ≡ l.fn.texts.items;
  long : into_iter_len l.text-iterator ≡ length (into_iter_items l.text-iterator);
  same_reference : l.draft.keeper.ghost_name ≡ l.fn.draft.keeper.ghost_name;
  stays : Stays g.K.Keeper.contents g.K.Keeper.leaves g.K.Keeper.faults l.fn.draft.keeper.now l.draft.keeper.now;
  puts : (c : Contents) (s : State) → g.K.Keeper.contents l.draft.keeper.now ≡ Some c → IsDraft (g.I.Ident.meaning l.fn.ident) c l.fn.draft.pending s →
      HasPut (g.I.Ident.meaning l.fn.ident) c s l.yielded l.draft.pending;
}
