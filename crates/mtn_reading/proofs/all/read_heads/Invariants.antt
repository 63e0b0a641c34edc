use Rattle.std.proofs.Common.{◌≡◌, ◌≤◌, Some, None, take}
use Rattle.mtn_history.specs.Stands.{IsDraft}
use Rattle.mtn_imports.specs.Imports.{ReadsFrom}
use Rattle.mtn_model.specs.State.{State}
use Rattle.mtn_model.specs.Table.{Contents}
use Rattle.mtn_ports.specs.Kept.{Stays}
use Rattle.mtn_reading.specs.Heads.{packets_at}
use Rattle.mtn_reading.specs.Reading.{kept_of}
use Rattle.mtn_reading.proofs.all.read_heads.Given as goal

abbrev pub invariant-loop-head : goal.invariant-loop-head
invariant-loop-head g l = record {
  number : l.number ≡ l.head-index;
  first : l.head-index ≡ 0 → l.draft.pending ≡ l.fn.draft.pending;
  files : l.counts.files ≤ l.head-index;
  revisions : l.counts.revisions ≤ l.head-index;
  certs : l.counts.certs ≤ l.head-index;
  same_reference : l.draft.keeper.ghost_name ≡ l.fn.draft.keeper.ghost_name;
  stays : Stays g.K.Keeper.contents g.K.Keeper.leaves g.K.Keeper.faults l.fn.draft.keeper.now l.draft.keeper.now;
  reads : (c : Contents) (s : State) → g.K.Keeper.contents l.draft.keeper.now ≡ Some c → IsDraft (g.I.Ident.meaning l.fn.ident) c l.fn.draft.pending s →
      (mid : State) × ReadsFrom (g.I.Ident.meaning l.fn.ident) 1 s (packets_at l.payloads (take l.head-index l.heads)) None mid (kept_of l.counts) × IsDraft (g.I.Ident.meaning l.fn.ident) c l.draft.pending mid;
}
