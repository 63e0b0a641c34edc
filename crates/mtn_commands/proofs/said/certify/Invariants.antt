use Rattle.std.specs.Prelude.{IsSome}
use Rattle.std.proofs.Common.{◌≡◌, List, ℕ, Some, take}
use Rattle.mtn_history.specs.Stands.{IsDraft}
use Rattle.mtn_model.specs.State.{State}
use Rattle.mtn_model.specs.Table.{Contents}
use Rattle.mtn_ports.specs.Kept.{Stays}
use Rattle.mtn_replay.specs.Texts.{text_under}
use Rattle.mtn_step.specs.Certifying.{said_certs, with_certs}
use Rattle.mtn_commands.proofs.said.certify.Given as goal

abbrev pub invariant-loop-cert : goal.invariant-loop-cert
invariant-loop-cert g l = record {
  same_reference : l.draft.keeper.ghost_name ≡ l.fn.draft.keeper.ghost_name;
  stays : Stays g.K.Keeper.contents g.K.Keeper.leaves g.K.Keeper.faults l.fn.draft.keeper.now l.draft.keeper.now;
  holds : (f : List ℕ → List ℕ) (c : Contents) (s : State) → g.K.Keeper.contents l.draft.keeper.now ≡ Some c → IsDraft f c l.fn.draft.pending s → IsSome (text_under s.log l.fn.id.0) →
      IsDraft f c l.draft.pending (with_certs s (take l.cert-index (said_certs l.fn.id l.fn.said)));
}
