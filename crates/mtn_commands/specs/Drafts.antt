-- What the function behind a command ensures, the same words for each.
use Rattle.std.specs.Prelude.{◌≡◌, ◌⊎◌, List, Option, Some, Result, Ok, Err, ℕ, Bool, true, false, ⊤, IfSome, option_map}
use Rattle.mtn_commands.specs.declared.error.CommandError.{CommandError}
use Rattle.mtn_commands.specs.declared.error.CommandError.TheVariants as command
use Rattle.mtn_base.specs.Refusals.{refusal_text}
use Rattle.mtn_base.specs.declared.refusal.Refusal.{Refusal}
use Rattle.mtn_frame.specs.Works.{reply_status}
use Rattle.mtn_frame.specs.declared.works.Reply.{Reply}
use Rattle.mtn_model.specs.Outcome.{Outcome}
use Rattle.mtn_model.specs.State.{State}
use Rattle.mtn_model.specs.Table.{Contents}
use Rattle.mtn_model.specs.declared.status.Status.TheVariants as status
use Rattle.mtn_ports.specs.Causes.{Rose}
use Rattle.mtn_ports.specs.Kept.{Stays, with_all}
use Rattle.mtn_history.specs.Damage.{IsDamage}
use Rattle.mtn_history.specs.Errors.{IfDamage}
use Rattle.mtn_history.specs.Meta.{IsMetaOf}
use Rattle.mtn_history.specs.Stands.{IsDraft}
use Rattle.mtn_history.specs.declared.pending.Pending.{Pending}
use Rattle.mtn_history.specs.declared.errors.Damage.{Damage}
use Rattle.mtn_history.specs.declared.errors.StoreError.{StoreError}
use Rattle.mtn_history.specs.declared.errors.StoreError.TheVariants.{Failed, Damaged, NoMemory}
use Rattle.mtn_history.specs.declared.errors.HistoryError.{HistoryError}
use Rattle.mtn_history.specs.declared.errors.HistoryError.TheVariants.{Refused, Store}
use Rattle.mtn_base.specs.declared.refusal.Cause.TheVariants.{UnknownRevision}
use Rattle.mtn_graph_queries.specs.declared.query.QueryError.{QueryError}
use Rattle.mtn_graph_queries.specs.declared.query.QueryError.TheVariants.{Unknown}
use Rattle.mtn_graph_queries.specs.declared.query.QueryError.TheVariants as query
use Rattle.mtn_reading.specs.Unfit.{IsUnfit}
use Rattle.mtn_step.specs.Step.{done, refused}
use Rattle.mtn_step.specs.declared.call.Call.{Call}
use Rattle.mtn_step.specs.declared.call.Call.TheVariants.{Generate, Merge, MergeHeads, Read}

-- the outcome that a reply tells, with this state
abbrev pub replied : Reply → State → Outcome
replied reply t = record { state = t; output = reply.text; status = reply_status reply }

-- the line of a whole refusal; the state is left
abbrev pub refused_with : Refusal → State → Outcome
refused_with refusal s = record { state = s; output = refusal_text refusal; status = status.Refused }

-- what a command answers for a query without an answer
abbrev pub query_refusal : QueryError → HistoryError
query_refusal (Unknown id) = Refused (UnknownRevision id)
query_refusal query.NoMemory = Store NoMemory

-- the text of a command that was done, and what it refuses: it leaves the state; records that stand for a state have no damage
abbrev pub Drafted : (List ℕ → List ℕ) → Contents → State → (Outcome → Type 0) → Result (List ℕ) HistoryError → Pending → Type 0
Drafted f c s Is (Ok text) p = (t : State) × Is (done t text) × IsDraft f c p t
Drafted f c s Is (Err (Refused cause)) p = Is (refused cause s)
Drafted f c s Is (Err (Store e)) p = IfDamage e (λ _. ⊥)

-- a fault or a damage has its cause
abbrev pub Reason : Option Contents → ℕ → ℕ → StoreError → Type 0
Reason told before now Failed = Rose before now
Reason told before now (Damaged d) = IfSome told (λ c. IsDamage c d)
Reason told before now NoMemory = ⊤

abbrev pub HasReason : Option Contents → ℕ → ℕ → Result (List ℕ) HistoryError → Type 0
HasReason told before now (Ok text) = ⊤
HasReason told before now (Err (Refused cause)) = ⊤
HasReason told before now (Err (Store e)) = Reason told before now e

-- the records of the keeper with those that are pending
abbrev pub drafted : Pending → Option Contents → Option Contents
drafted p told = option_map (λ c. with_all c p.batch) told

-- the count of a draft is what its records tell
abbrev pub Counts : Pending → Option Contents → Type 0
Counts p told = IfSome told (λ c. IsMetaOf (with_all c p.batch) (record { count = p.count; is_new = p.is_new }))

-- What a command that finds no conflicts does over a draft. `Outcomes` says what it does to a state. A damage is one of the records
-- that it began with. This is the clause of each command's function.
pub record Drafts (f : List ℕ → List ℕ) {K : Type 0} (contents : K → Option Contents) (leaves : K → Contents → Type 0) (faults : K → ℕ) (old new : K)
    (before after : Pending) (Outcomes : State → Outcome → Type 0) (result : Result (List ℕ) HistoryError) : Type 0 where
  pub stays : Stays contents leaves faults old new
  pub done : (c : Contents) (s : State) → contents new ≡ Some c → IsDraft f c before s → Drafted f c s (Outcomes s) result after
  pub reason : Counts before (contents new) → HasReason (drafted before (contents new)) (faults old) (faults new) result

-- the reply of a command that answered a text
abbrev pub reply_of : Result (List ℕ) HistoryError → Result Reply HistoryError
reply_of (Ok text) = Ok (record { conflicts = false; text = text })
reply_of (Err e) = Err e

-- the same where a command may find conflicts
abbrev pub Replied : (List ℕ → List ℕ) → Contents → State → (Outcome → Type 0) → Result Reply HistoryError → Pending → Type 0
Replied f c s Is (Ok reply) p = (t : State) × Is (replied reply t) × IsDraft f c p t
Replied f c s Is (Err e) p = Drafted f c s Is (Err e) p

abbrev pub HasReplyReason : Option Contents → ℕ → ℕ → Result Reply HistoryError → Type 0
HasReplyReason told before now (Ok reply) = ⊤
HasReplyReason told before now (Err e) = HasReason told before now (Err e)

-- conflicts come from a merge alone, and leave what is pending
abbrev pub IsQuiet : Bool → Pending → Pending → Result Reply HistoryError → Type 0
IsQuiet merges before after (Ok reply) = reply.conflicts ≡ true → (merges ≡ true) × (after ≡ before)
IsQuiet merges before after (Err e) = ⊤

-- what a command that may find conflicts does over a draft
pub record Replies (f : List ℕ → List ℕ) {K : Type 0} (contents : K → Option Contents) (leaves : K → Contents → Type 0) (faults : K → ℕ) (old new : K)
    (before after : Pending) (merges : Bool) (Outcomes : State → Outcome → Type 0) (result : Result Reply HistoryError) : Type 0 where
  pub stays : Stays contents leaves faults old new
  pub done : (c : Contents) (s : State) → contents new ≡ Some c → IsDraft f c before s → Replied f c s (Outcomes s) result after
  pub reason : Counts before (contents new) → HasReplyReason (drafted before (contents new)) (faults old) (faults new) result
  pub quiet : IsQuiet merges before after result

-- a command that may find conflicts
abbrev pub may_conflict : Option Call → Bool
may_conflict (Some (Merge a b resolves)) = true
may_conflict (Some (MergeHeads branch author date key resolves)) = true
may_conflict _ = false

-- an error of a command that refuses by its cause alone
abbrev pub whole_error : HistoryError → CommandError
whole_error (Refused cause) = command.Refused (record { packet = 0; cause = cause })
whole_error (Store e) = command.Store e

abbrev pub whole : Result Reply HistoryError → Result Reply CommandError
whole (Ok reply) = Ok reply
whole (Err e) = Err (whole_error e)

-- the reply of any command, or its refusal with a packet's number where it has one
abbrev pub Performed : (List ℕ → List ℕ) → Contents → State → (Outcome → Type 0) → Result Reply CommandError → Pending → Type 0
Performed f c s Is (Ok reply) p = (t : State) × Is (replied reply t) × IsDraft f c p t
Performed f c s Is (Err (command.Refused refusal)) p = Is (refused_with refusal s)
Performed f c s Is (Err (command.Store e)) p = IfDamage e (λ _. ⊥)

-- a command that puts one text behind the other, as one that reads packets does
abbrev pub reads_packets : Option Call → Bool
reads_packets (Some Read) = true
reads_packets (Some (Generate count)) = true
reads_packets _ = false

-- A damage of these records. Where texts are put one behind the other, it may be a record of such as stand for no state
abbrev pub IsCommandDamage : (List ℕ → List ℕ) → Bool → Contents → Damage → Type 0
IsCommandDamage f reading c d = IsDamage c d ⊎ ((reading ≡ true) × IsUnfit f c d)

abbrev pub CommandReason : (List ℕ → List ℕ) → Bool → Option Contents → ℕ → ℕ → StoreError → Type 0
CommandReason f reading told before now Failed = Rose before now
CommandReason f reading told before now (Damaged d) = IfSome told (λ c. IsCommandDamage f reading c d)
CommandReason f reading told before now NoMemory = ⊤

abbrev pub HasCommandReason : (List ℕ → List ℕ) → Bool → Option Contents → ℕ → ℕ → Result Reply CommandError → Type 0
HasCommandReason f reading told before now (Ok reply) = ⊤
HasCommandReason f reading told before now (Err (command.Refused refusal)) = ⊤
HasCommandReason f reading told before now (Err (command.Store e)) = CommandReason f reading told before now e

abbrev pub IsCommandQuiet : Bool → Pending → Pending → Result Reply CommandError → Type 0
IsCommandQuiet merges before after (Ok reply) = reply.conflicts ≡ true → (merges ≡ true) × (after ≡ before)
IsCommandQuiet merges before after (Err e) = ⊤

-- what any command does over a draft
pub record Performs (f : List ℕ → List ℕ) {K : Type 0} (contents : K → Option Contents) (leaves : K → Contents → Type 0) (faults : K → ℕ) (old new : K)
    (before after : Pending) (merges reading : Bool) (Outcomes : State → Outcome → Type 0) (result : Result Reply CommandError) : Type 0 where
  pub stays : Stays contents leaves faults old new
  pub done : (c : Contents) (s : State) → contents new ≡ Some c → IsDraft f c before s → Performed f c s (Outcomes s) result after
  pub reason : Counts before (contents new) → HasCommandReason f reading (drafted before (contents new)) (faults old) (faults new) result
  pub quiet : IsCommandQuiet merges before after result
