-- What one job leaves: done, put, and its answer written.
use Rattle.std.specs.Prelude.{◌≡◌, ◌≢◌, ◌⊎◌, ◌≤◌, ◌<◌, ◌+◌, ℕ, length, Result, OnOk, OnErr, IsErrOf, Bool, true, false, List, [], take, Option, Some, ⊤}
use Rattle.std.specs.Io.KnownBytes.{Appends}
use Rattle.mtn_base.specs.declared.refusal.Refusal.{Refusal}
use Rattle.mtn_base.specs.Refusals.{refusal_text}
use Rattle.mtn_model.specs.Table.{Contents}
use Rattle.mtn_ports.specs.Causes.{Rose}
use Rattle.mtn_ports.specs.Kept.{Same, IfTold, Adds, MayLeave, Stays}
use Rattle.mtn_ports.specs.declared.batch.Put.{Put}
use Rattle.mtn_ports.specs.declared.keeper.KeepError.{KeepError}
use Rattle.mtn_ports.specs.declared.keeper.KeepError.TheVariants.{Failed}
use Rattle.mtn_frame.specs.declared.script.Form.{Form}
use Rattle.mtn_model.specs.declared.status.Status.{Status}
use Rattle.mtn_model.specs.declared.status.Status.TheVariants as status
use Rattle.mtn_frame.specs.Kinds.{kind_of, ByKind, ByVouch}
use Rattle.mtn_frame.specs.Outcome.{JobOutcome}
use Rattle.mtn_frame.specs.Script.{usage_line, print_as}

-- contents that are told at the end were told before
abbrev pub WasTold : Option Contents → Option Contents → Type 0
WasTold old new = IfTold new (λ _. (c : Contents) × (old ≡ Some c))

-- all records were put, or none; where there are none the keeper was not called
pub record Puts {K : Type 0} (contents : K → Option Contents) (leaves : K → Contents → Type 0) (faults asked : K → ℕ) (old new : K) (puts : List Put) (result : Result (Unit {0}) KeepError) : Type 0 where
  pub ok : OnOk result (Adds (contents old) (contents new) puts)
  pub err : OnErr result (Same (contents old) (contents new))
  pub crash : MayLeave (contents old) (contents new) (leaves old) (leaves new) puts
  pub none : puts ≡ [] → Stays contents leaves faults old new
  pub some : OnErr result (puts ≡ [] → ⊥)
  pub later : faults old ≤ faults new
  pub failed : IsErrOf result Failed → Rose (faults old) (faults new)
  pub reads : asked new ≡ asked old

-- the whole text was written, or the sink failed at a front of it
abbrev pub Delivers : Status → List ℕ → Option (List ℕ) → Option (List ℕ) → ℕ → ℕ → Status → Type 0
Delivers answered text old new before now result =
    ((result ≡ answered) × Appends old new text) ⊎ ((result ≡ status.SinkFault) × Rose before now × (0 < length text) × ((n : ℕ) × Appends old new (take n text)))

-- its outcome, whole
pub record AnsweredOne {S : Type 0} (Stands : Contents → S → Type 0) (Is : JobOutcome S → Type 0) (form : Form) (d : Contents) (written0 written1 : Option (List ℕ)) (result : Status) : Type 0 where
  pub outcome : JobOutcome S
  pub is : Is outcome
  pub status : result ≡ outcome.status
  pub stands : Stands d outcome.state
  pub written : Appends written0 written1 (print_as form outcome.status outcome.output)

-- its outcome, of which a front was written
pub record CutOne {S : Type 0} (Stands : Contents → S → Type 0) (Is : JobOutcome S → Type 0) (form : Form) (d : Contents) (written0 written1 : Option (List ℕ)) : Type 0 where
  pub outcome : JobOutcome S
  pub is : Is outcome
  pub stands : Stands d outcome.state
  pub front : ℕ
  pub written : Appends written0 written1 (take front (print_as form outcome.status outcome.output))

-- what is written, by the status alone
abbrev pub WritesOne : (List ℕ → Type 0) → Form → Option (List ℕ) → Option (List ℕ) → Status → Type 0
WritesOne Lines form written0 written1 status.Usage = Appends written0 written1 (print_as form status.Usage usage_line)
WritesOne Lines form written0 written1 status.StoreFault = Appends written0 written1 []
WritesOne Lines form written0 written1 status.NoMemory = Appends written0 written1 []
WritesOne Lines form written0 written1 status.SourceFault = ⊥
WritesOne Lines form written0 written1 status.TooLong = ⊥
WritesOne Lines form written0 written1 status.Ok = ⊤
WritesOne Lines form written0 written1 status.Refused = (refusal : Refusal) × Appends written0 written1 (print_as form status.Refused (refusal_text refusal))
WritesOne Lines form written0 written1 status.Conflicts = ⊤
WritesOne Lines form written0 written1 status.SinkFault = ⊤
WritesOne Lines form written0 written1 status.Damaged = (line : List ℕ) × Lines line × Appends written0 written1 (print_as form status.Damaged line)

-- the line of a damage of these records, as it was answered
pub record ShowsOne (Damages : Contents → List ℕ → Type 0) (form : Form) (c : Contents) (written0 written1 : Option (List ℕ)) : Type 0 where
  pub line : List ℕ
  pub is : Damages c line
  pub written : Appends written0 written1 (print_as form status.Damaged line)

-- the line of a refusal of these records, as it was answered
pub record RefusesOne (Refuses : Contents → Refusal → Type 0) (form : Form) (c : Contents) (written0 written1 : Option (List ℕ)) : Type 0 where
  pub refusal : Refusal
  pub is : Refuses c refusal
  pub written : Appends written0 written1 (print_as form status.Refused (refusal_text refusal))

-- the records stand for a state, over which the command was done and answered whole
pub record Vouched {S : Type 0} (Stands : Contents → S → Type 0) (Outcomes : S → JobOutcome S → Type 0) (form : Form) (d : Contents) (written0 written1 : Option (List ℕ)) (result : Status) : Type 0 where
  pub state : S
  pub stands : Stands d state
  pub outcome : JobOutcome S
  pub is : Outcomes state outcome
  pub status : result ≡ outcome.status
  pub written : Appends written0 written1 (print_as form outcome.status outcome.output)

-- the records stand for the state of such an outcome
pub record StandsAfter {S : Type 0} (Stands : Contents → S → Type 0) (Is : JobOutcome S → Type 0) (now : Contents) : Type 0 where
  pub outcome : JobOutcome S
  pub is : Is outcome
  pub stands : Stands now outcome.state

pub record One {S : Type 0} (Stands : Contents → S → Type 0) (Damages Firsts : Contents → List ℕ → Type 0) (Refuses : Contents → Refusal → Type 0) (Lines : List ℕ → Type 0) {M : Type 0} (Knows : M → Contents → Type 0)
    {K : Type 0} (contents : K → Option Contents) (leaves : K → Contents → Type 0) (faults asked : K → ℕ) (old new : K) (after : M)
    (written0 written1 : Option (List ℕ)) (o0 o1 : ℕ) (form : Form) (spelled merges vouched : Bool) (Outcomes : S → JobOutcome S → Type 0) (Bounded : S → ℕ → Type 0) (Changes : Contents → Contents → Type 0) (result : Status) : Type 0 where
  pub told : WasTold (contents old) (contents new)
  pub done : (c d : Contents) (s : S) → contents old ≡ Some c → contents new ≡ Some d → Stands c s →
      ByKind (kind_of result) (AnsweredOne Stands (Outcomes s) form d written0 written1 result) (CutOne Stands (Outcomes s) form d written0 written1) (Stands d s × Appends written0 written1 []) ⊥ ⊥
  pub knows : (d : Contents) → contents new ≡ Some d → ByKind (kind_of result) (Knows after d) ⊤ ⊤ ⊤ ⊤
  pub crash : (c d e : Contents) (s : S) → contents old ≡ Some c → contents new ≡ Some d → Stands c s → leaves new e → leaves old e ⊎ StandsAfter Stands (Outcomes s) e
  pub same : result ≢ status.Ok → result ≢ status.SinkFault → Same (contents old) (contents new)
  pub written : WritesOne Lines form written0 written1 result
  pub grows : (text : List ℕ) × Appends written0 written1 text
  pub damage : result ≡ status.Damaged → IfTold (contents new) (λ c. ShowsOne Damages form c written0 written1)
  pub usage : result ≡ status.Usage → spelled ≡ false
  pub words : spelled ≡ false → (result ≡ status.Usage) ⊎ ((result ≡ status.NoMemory) ⊎ (result ≡ status.SinkFault))
  pub conflicts : result ≡ status.Conflicts → merges ≡ true
  pub store : result ≡ status.StoreFault → Rose (faults old) (faults new)
  pub sink : result ≡ status.SinkFault → Rose o0 o1
  pub few_reads : (c d : Contents) (s : S) (n : ℕ) → contents old ≡ Some c → contents new ≡ Some d → Stands c s → Bounded s n → asked new ≤ asked old + n
  pub changes : (c d : Contents) → contents old ≡ Some c → contents new ≡ Some d → (d ≡ c) ⊎ Changes c d
  pub vouches : vouched ≡ true → (d : Contents) → contents new ≡ Some d → ByVouch result (Vouched Stands Outcomes form d written0 written1 result) (RefusesOne Refuses form d written0 written1) (ShowsOne Firsts form d written0 written1)
  pub later : faults old ≤ faults new
  pub sink_later : o0 ≤ o1
