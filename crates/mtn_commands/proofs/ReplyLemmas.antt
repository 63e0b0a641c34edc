-- A command that answers a text replies.
use Rattle.std.proofs.Common.{◌≡◌, ℕ, Bool, List, Option, Result, Ok, Err, sym, subst}
use Rattle.mtn_frame.specs.declared.works.Reply.{Reply}
use Rattle.mtn_commands.specs.declared.error.CommandError.{CommandError}
use Rattle.mtn_history.specs.declared.errors.HistoryError.{HistoryError}
use Rattle.mtn_history.specs.declared.errors.HistoryError.TheVariants.{Refused, Store}
use Rattle.mtn_history.specs.declared.pending.Pending.{Pending}
use Rattle.mtn_model.specs.Outcome.{Outcome}
use Rattle.mtn_model.specs.State.{State}
use Rattle.mtn_model.specs.Table.{Contents}
use Rattle.mtn_commands.specs.Drafts.{Drafts, Performs, Replies, drafted, reply_of, whole}
use Rattle.mtn_commands.proofs.ReasonLemmas.{command_reason}

-- a command that answers a text replies
pub replies_of : (f : List ℕ → List ℕ) {K : Type 0} (contents : K → Option Contents) (leaves : K → Contents → Type 0) (faults : K → ℕ) (old new : K) (before after : Pending) (merges : Bool) (Outcomes : State → Outcome → Type 0)
    (r : Result (List ℕ) HistoryError) → Drafts f contents leaves faults old new before after Outcomes r → Replies f contents leaves faults old new before after merges Outcomes (reply_of r)
replies_of f contents leaves faults old new before after merges Outcomes (Ok text) drafts = record { stays = drafts.stays; done = drafts.done; reason = λ counts. tt; quiet = λ on. absurd cc }
replies_of f contents leaves faults old new before after merges Outcomes (Err e) drafts = record { stays = drafts.stays; done = drafts.done; reason = drafts.reason; quiet = tt }

-- the same by another name of the result
pub replies_as : (f : List ℕ → List ℕ) {K : Type 0} (contents : K → Option Contents) (leaves : K → Contents → Type 0) (faults : K → ℕ) (old new : K) (before after : Pending) (merges : Bool) (Outcomes : State → Outcome → Type 0)
    (r : Result (List ℕ) HistoryError) (q : Result Reply HistoryError) → q ≡ reply_of r → Drafts f contents leaves faults old new before after Outcomes r → Replies f contents leaves faults old new before after merges Outcomes q
replies_as f contents leaves faults old new before after merges Outcomes r q is drafts =
    subst (Replies f contents leaves faults old new before after merges Outcomes) (sym is) (replies_of f contents leaves faults old new before after merges Outcomes r drafts)

-- a command that refuses by its cause alone performs
performs_of : (f : List ℕ → List ℕ) {K : Type 0} (contents : K → Option Contents) (leaves : K → Contents → Type 0) (faults : K → ℕ) (old new : K) (before after : Pending) (merges reading : Bool) (Outcomes : State → Outcome → Type 0)
    (r : Result Reply HistoryError) → Replies f contents leaves faults old new before after merges Outcomes r → Performs f contents leaves faults old new before after merges reading Outcomes (whole r)
performs_of f contents leaves faults old new before after merges reading Outcomes (Ok reply) replies = record { stays = replies.stays; done = replies.done; reason = λ counts. tt; quiet = replies.quiet }
performs_of f contents leaves faults old new before after merges reading Outcomes (Err (Refused cause)) replies = record { stays = replies.stays; done = replies.done; reason = λ counts. tt; quiet = tt }
performs_of f contents leaves faults old new before after merges reading Outcomes (Err (Store e)) replies =
    record { stays = replies.stays; done = replies.done; reason = λ counts. command_reason f reading (drafted before (contents new)) (faults old) (faults new) e (replies.reason counts); quiet = tt }

pub performs_as : (f : List ℕ → List ℕ) {K : Type 0} (contents : K → Option Contents) (leaves : K → Contents → Type 0) (faults : K → ℕ) (old new : K) (before after : Pending) (merges reading : Bool) (Outcomes : State → Outcome → Type 0)
    (r : Result Reply HistoryError) (q : Result Reply CommandError) → q ≡ whole r → Replies f contents leaves faults old new before after merges Outcomes r → Performs f contents leaves faults old new before after merges reading Outcomes q
performs_as f contents leaves faults old new before after merges reading Outcomes r q is replies =
    subst (Performs f contents leaves faults old new before after merges reading Outcomes) (sym is) (performs_of f contents leaves faults old new before after merges reading Outcomes r replies)
