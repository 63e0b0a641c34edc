-- What the function behind a command ensures, the same words for each. It only reads the keeper, and answers with the records
-- that are to be put.
use Rattle.std.specs.Prelude.{◌≡◌, ◌⊎◌, ◌≤◌, ◌+◌, ℕ, Bool, true, false, List, [], Option, Some, Result, Ok, Err, if◌then◌else◌, ⊤}
use Rattle.mtn_base.specs.declared.refusal.Refusal.{Refusal}
use Rattle.mtn_base.specs.Refusals.{refusal_text}
use Rattle.mtn_model.specs.Table.{Contents}
use Rattle.mtn_ports.specs.Causes.{Rose}
use Rattle.mtn_ports.specs.Kept.{Stays, IfTold, with_all}
use Rattle.mtn_ports.specs.declared.batch.Put.{Put}
use Rattle.mtn_frame.specs.declared.script.Job.{Job}
use Rattle.mtn_frame.specs.declared.script.Job.TheVariants.{Call, BadInput}
use Rattle.mtn_frame.specs.declared.script.Form.{Form}
use Rattle.mtn_frame.specs.declared.works.Reply.{Reply}
use Rattle.mtn_frame.specs.declared.works.Worked.{Worked}
use Rattle.mtn_frame.specs.declared.works.WorkError.{WorkError}
use Rattle.mtn_frame.specs.declared.works.WorkError.TheVariants.{Usage, Refused, Damaged, Failed, NoMemory}
use Rattle.mtn_frame.specs.declared.settle.Settled.{Settled}
use Rattle.mtn_model.specs.declared.status.Status.{Status}
use Rattle.mtn_model.specs.declared.status.Status.TheVariants as status
use Rattle.mtn_frame.specs.Outcome.{JobOutcome}
use Rattle.mtn_frame.specs.Script.{refused, usage_line, print_as}

-- how a reply ends
abbrev pub reply_status : Reply → Status
reply_status reply = if reply.conflicts then status.Conflicts else status.Ok

-- the outcome that a reply tells, with this state
abbrev pub replied : {S : Type 0} → Reply → S → JobOutcome S
replied reply t = record { state = t; output = reply.text; status = reply_status reply }

-- words outside the grammar leave the state
abbrev pub misused : {S : Type 0} → S → JobOutcome S
misused s = record { state = s; output = usage_line; status = status.Usage }

-- the answer over records that stand for a state: with what is put they stand for the outcome's
abbrev pub WorksOver : {S : Type 0} → (Contents → S → Type 0) → Contents → S → (JobOutcome S → Type 0) → Result Worked WorkError → Type 0
WorksOver {S} Stands c s Is (Ok worked) = (t : S) × Is (replied worked.reply t) × Stands (with_all c worked.batch) t
WorksOver Stands c s Is (Err Usage) = Is (misused s)
WorksOver Stands c s Is (Err (Refused refusal)) = Is (refused refusal s)
WorksOver Stands c s Is (Err (Damaged line)) = ⊥
WorksOver Stands c s Is (Err Failed) = ⊤
WorksOver Stands c s Is (Err NoMemory) = ⊤

-- what is to be put
abbrev pub puts_of : Result Worked WorkError → List Put
puts_of (Ok worked) = worked.batch
puts_of (Err e) = []

-- Why: conflicts come from a merge alone and put nothing; Usage only for words outside the grammar, and nothing else but want of
-- memory for these; a fault rose; a damage is one of these records.
abbrev pub HasReason : Bool → Bool → ℕ → ℕ → (List ℕ → Type 0) → (List ℕ → Type 0) → Result Worked WorkError → Type 0
HasReason spelled merges before now Lines IsDamage (Ok worked) = (spelled ≡ true) × (worked.reply.conflicts ≡ true → (merges ≡ true) × (worked.batch ≡ []))
HasReason spelled merges before now Lines IsDamage (Err Usage) = spelled ≡ false
HasReason spelled merges before now Lines IsDamage (Err (Refused refusal)) = spelled ≡ true
HasReason spelled merges before now Lines IsDamage (Err (Damaged line)) = (spelled ≡ true) × IsDamage line × Lines line
HasReason spelled merges before now Lines IsDamage (Err Failed) = (spelled ≡ true) × Rose before now
HasReason spelled merges before now Lines IsDamage (Err NoMemory) = ⊤

-- What a command that vouches for the store says of records, whatever they are: that they stand for a state, over which it did
-- this and put nothing, that they are of those over which it is refused so, or that this is their first damage.
abbrev pub VouchesFor : {S : Type 0} → (Contents → S → Type 0) → (Contents → List ℕ → Type 0) → (Contents → Refusal → Type 0) → Contents → (S → JobOutcome S → Type 0) → Result Worked WorkError → Type 0
VouchesFor {S} Stands Firsts Refuses c Outcomes (Ok worked) = (s : S) × Stands c s × Outcomes s (replied worked.reply s) × (worked.reply.conflicts ≡ false) × (worked.batch ≡ [])
VouchesFor Stands Firsts Refuses c Outcomes (Err Usage) = ⊤
VouchesFor Stands Firsts Refuses c Outcomes (Err (Refused refusal)) = Refuses c refusal
VouchesFor Stands Firsts Refuses c Outcomes (Err (Damaged line)) = Firsts c line
VouchesFor Stands Firsts Refuses c Outcomes (Err Failed) = ⊤
VouchesFor Stands Firsts Refuses c Outcomes (Err NoMemory) = ⊤

-- what is put, if anything, changes the records only so
abbrev pub ChangesBy : (Contents → Contents → Type 0) → Contents → Result Worked WorkError → Type 0
ChangesBy Changes c (Ok worked) = (worked.batch ≡ []) ⊎ Changes c (with_all c worked.batch)
ChangesBy Changes c (Err e) = ⊤

-- What a command does over a keeper, with a memory of what was read before that is true of its records. `Outcomes` says what it does to a state, `Knows` that a
-- memory is true of records, `Damages` that a line shows a damage of records, `Firsts` the first one, `Refuses` over which
-- records a command that vouches for the store is refused, `Lines` that a line shows a damage at all, `Bounded` how
-- many records are asked for at most, `Changes` what may become of records.
pub record Works {S : Type 0} (Stands : Contents → S → Type 0) (Damages Firsts : Contents → List ℕ → Type 0) (Refuses : Contents → Refusal → Type 0) (Lines : List ℕ → Type 0) {M : Type 0} (Knows : M → Contents → Type 0)
    {K : Type 0} (contents : K → Option Contents) (leaves : K → Contents → Type 0) (faults asked : K → ℕ) (old new : K) (after : M)
    (spelled merges vouched : Bool) (Outcomes : S → JobOutcome S → Type 0) (Bounded : S → ℕ → Type 0) (Changes : Contents → Contents → Type 0) (result : Result Worked WorkError) : Type 0 where
  pub stays : Stays contents leaves faults old new
  pub done : (c : Contents) (s : S) → contents new ≡ Some c → Stands c s → WorksOver Stands c s (Outcomes s) result
  pub knows : (c : Contents) → contents new ≡ Some c → Knows after (with_all c (puts_of result))
  pub reason : HasReason spelled merges (faults old) (faults new) Lines (λ line. IfTold (contents new) (λ c. Damages c line)) result
  pub few_reads : (c : Contents) (s : S) (n : ℕ) → contents new ≡ Some c → Stands c s → Bounded s n → asked new ≤ asked old + n
  pub changes : (c : Contents) → contents new ≡ Some c → ChangesBy Changes c result
  pub vouches : (c : Contents) → contents new ≡ Some c → vouched ≡ true → VouchesFor Stands Firsts Refuses c Outcomes result

-- whether the words of a job are in the grammar; an input that is no list of requests came with words that are
abbrev pub is_spelled : (List (List ℕ) → Bool) → Job → Bool
is_spelled spelled (Call words payload) = spelled words
is_spelled spelled (BadInput number) = true

abbrev pub is_merging : (List (List ℕ) → Bool) → Job → Bool
is_merging merges (Call words payload) = merges words
is_merging merges (BadInput number) = false

abbrev pub is_vouching : (List (List ℕ) → Bool) → Job → Bool
is_vouching vouches (Call words payload) = vouches words
is_vouching vouches (BadInput number) = false

-- an answer with what is to be put for it
abbrev pub settled : Form → Status → List ℕ → List Put → Settled
settled form result text puts = record { status = result; text = print_as form result text; batch = puts }

-- a status that is not answered
abbrev pub silent : Status → Settled
silent result = record { status = result; text = []; batch = [] }

-- an answer, or want of memory
abbrev pub OrWant : Settled → Settled → Type 0
OrWant out answer = (out ≡ answer) ⊎ (out ≡ silent status.NoMemory)

-- what is answered where a command did this
abbrev pub Settles : Form → Result Worked WorkError → Settled → Type 0
Settles form (Ok worked) out = OrWant out (settled form (reply_status worked.reply) worked.reply.text worked.batch)
Settles form (Err Usage) out = OrWant out (settled form status.Usage usage_line [])
Settles form (Err (Refused refusal)) out = OrWant out (settled form status.Refused (refusal_text refusal) [])
Settles form (Err (Damaged line)) out = OrWant out (settled form status.Damaged line [])
Settles form (Err Failed) out = out ≡ silent status.StoreFault
Settles form (Err NoMemory) out = out ≡ silent status.NoMemory
