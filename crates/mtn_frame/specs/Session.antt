-- What the jobs of a session leave.
use Rattle.std.specs.Prelude.{◌≡◌, ◌≤◌, ◌+◌, ◌⊎◌, ℕ, List, Bool, true, false, Option, Some, ⊤}
use Rattle.mtn_base.specs.declared.refusal.Refusal.{Refusal}
use Rattle.mtn_model.specs.Table.{Contents}
use Rattle.mtn_ports.specs.Causes.{Rose}
use Rattle.mtn_ports.specs.Kept.{IfTold}
use Rattle.mtn_frame.specs.declared.script.Job.{Job}
use Rattle.mtn_frame.specs.declared.script.Script.{Script}
use Rattle.mtn_frame.specs.declared.script.Script.TheVariants.{Bare, Framed}
use Rattle.mtn_model.specs.declared.status.Status.{Status}
use Rattle.mtn_model.specs.declared.status.Status.TheVariants as status
use Rattle.mtn_frame.specs.Outcome.{JobOutcome}
use Rattle.mtn_frame.specs.Script.{jobs_of}
use Rattle.mtn_frame.specs.One.{WasTold}
use Rattle.mtn_frame.specs.Frame.{RunsOver, StandsAfterSome, LeavesRecords, Writes, Shows, ShowsLast, VouchesBare}
use Rattle.mtn_frame.specs.Works.{is_spelled, is_merging, is_vouching}

-- a session goes on behind an answer from 0 to 3
abbrev pub goes_on : Status → Bool
goes_on status.Ok = true
goes_on status.Refused = true
goes_on status.Usage = true
goes_on status.Conflicts = true
goes_on status.SourceFault = false
goes_on status.SinkFault = false
goes_on status.StoreFault = false
goes_on status.NoMemory = false
goes_on status.Damaged = false
goes_on status.TooLong = false

-- how a session ends, once its requests were read, and why
abbrev pub EndsSession : ℕ → ℕ → ℕ → ℕ → Status → Type 0
EndsSession k0 k1 o0 o1 status.Ok = ⊤
EndsSession k0 k1 o0 o1 status.Refused = ⊥
EndsSession k0 k1 o0 o1 status.Usage = ⊥
EndsSession k0 k1 o0 o1 status.Conflicts = ⊥
EndsSession k0 k1 o0 o1 status.SourceFault = ⊥
EndsSession k0 k1 o0 o1 status.SinkFault = Rose o0 o1
EndsSession k0 k1 o0 o1 status.StoreFault = Rose k0 k1
EndsSession k0 k1 o0 o1 status.NoMemory = ⊤
EndsSession k0 k1 o0 o1 status.Damaged = ⊤
EndsSession k0 k1 o0 o1 status.TooLong = ⊥

pub record RunsJobs {S : Type 0} (Stands : Contents → S → Type 0) (Damages : Contents → List ℕ → Type 0) (Is : Job → S → JobOutcome S → Type 0)
    {K : Type 0} (contents : K → Option Contents) (leaves : K → Contents → Type 0) (faults : K → ℕ) (old new : K)
    (written0 written1 : Option (List ℕ)) (o0 o1 : ℕ) (jobs : List Job) (result : Status) : Type 0 where
  pub told : WasTold (contents old) (contents new)
  pub done : (c d : Contents) (s : S) → contents old ≡ Some c → contents new ≡ Some d → Stands c s → RunsOver Stands Is (Framed jobs) s d written0 written1 result
  pub crash : (c d e : Contents) (s : S) → contents old ≡ Some c → contents new ≡ Some d → Stands c s → leaves new e → leaves old e ⊎ StandsAfterSome Stands Is s jobs e
  pub damage : result ≡ status.Damaged → IfTold (contents new) (λ c. ShowsLast Damages c written0 written1)
  pub ends : EndsSession (faults old) (faults new) o0 o1 result
  pub later : faults old ≤ faults new
  pub sink_later : o0 ≤ o1

abbrev pub is_framed : Script → Bool
is_framed (Bare job) = false
is_framed (Framed jobs) = true

-- whether the words of a script are in the grammar, and a merge's
abbrev pub script_spelled : (List (List ℕ) → Bool) → Script → Bool
script_spelled spelled (Bare job) = is_spelled spelled job
script_spelled spelled (Framed jobs) = true

abbrev pub script_merging : (List (List ℕ) → Bool) → Script → Bool
script_merging merging (Bare job) = is_merging merging job
script_merging merging (Framed jobs) = false

-- whether it is one command that vouches for the store
abbrev pub script_vouching : (List (List ℕ) → Bool) → Script → Bool
script_vouching vouching (Bare job) = is_vouching vouching job
script_vouching vouching (Framed jobs) = false

-- a bare job asks for no more records than it says
abbrev pub AsksFewIf : {S : Type 0} → (Contents → S → Type 0) → (Job → S → ℕ → Type 0) → Script → Option Contents → Option Contents → ℕ → ℕ → Type 0
AsksFewIf {S} Stands Bounded (Bare job) old new before now = (c d : Contents) (s : S) (n : ℕ) → old ≡ Some c → new ≡ Some d → Stands c s → Bounded job s n → now ≤ before + n
AsksFewIf Stands Bounded (Framed jobs) old new before now = ⊤

-- a bare job changes the records only as it says
abbrev pub ChangesIf : (Job → Contents → Contents → Type 0) → Script → Option Contents → Option Contents → Type 0
ChangesIf Changes (Bare job) old new = (c d : Contents) → old ≡ Some c → new ≡ Some d → (d ≡ c) ⊎ Changes job c d
ChangesIf Changes (Framed jobs) old new = ⊤

abbrev pub VouchesIf : {S : Type 0} → (Contents → S → Type 0) → (Contents → List ℕ → Type 0) → (Contents → Refusal → Type 0) → (Job → S → JobOutcome S → Type 0) → Script → Bool → Option Contents → Option (List ℕ) → Option (List ℕ) → Status → Type 0
VouchesIf Stands Firsts Refuses Is (Bare job) vouched new written0 written1 result = vouched ≡ true → (d : Contents) → new ≡ Some d → VouchesBare Stands Firsts Refuses (Is job) d written0 written1 result
VouchesIf Stands Firsts Refuses Is (Framed jobs) vouched new written0 written1 result = ⊤

-- What a script leaves, once the input was read.
pub record RunsScript {S : Type 0} (Stands : Contents → S → Type 0) (Damages Firsts : Contents → List ℕ → Type 0) (Refuses : Contents → Refusal → Type 0) (Lines : List ℕ → Type 0) (Is : Job → S → JobOutcome S → Type 0) (Bounded : Job → S → ℕ → Type 0) (Changes : Job → Contents → Contents → Type 0)
    {K : Type 0} (contents : K → Option Contents) (leaves : K → Contents → Type 0) (faults asked : K → ℕ) (old new : K)
    (written0 written1 : Option (List ℕ)) (o0 o1 : ℕ) (script : Script) (spelled merges vouched : Bool) (result : Status) : Type 0 where
  pub told : WasTold (contents old) (contents new)
  pub done : (c d : Contents) (s : S) → contents old ≡ Some c → contents new ≡ Some d → Stands c s → RunsOver Stands Is script s d written0 written1 result
  pub crash : (c d e : Contents) (s : S) → contents old ≡ Some c → contents new ≡ Some d → Stands c s → leaves new e → leaves old e ⊎ StandsAfterSome Stands Is s (jobs_of script) e
  pub same : LeavesRecords (is_framed script) (contents old) (contents new) result
  pub written : Writes Lines (is_framed script) written0 written1 result
  pub damage : result ≡ status.Damaged → IfTold (contents new) (λ c. Shows Damages (is_framed script) c written0 written1)
  pub usage : result ≡ status.Usage → spelled ≡ false
  pub words : spelled ≡ false → (result ≡ status.Usage) ⊎ ((result ≡ status.NoMemory) ⊎ (result ≡ status.SinkFault))
  pub conflicts : result ≡ status.Conflicts → merges ≡ true
  pub store : result ≡ status.StoreFault → Rose (faults old) (faults new)
  pub sink : result ≡ status.SinkFault → Rose o0 o1
  pub few_reads : AsksFewIf Stands Bounded script (contents old) (contents new) (asked old) (asked new)
  pub changes : ChangesIf Changes script (contents old) (contents new)
  pub vouches : VouchesIf Stands Firsts Refuses Is script vouched (contents new) written0 written1 result
  pub read : (result ≡ status.SourceFault → ⊥) × (result ≡ status.TooLong → ⊥)
  pub later : faults old ≤ faults new
