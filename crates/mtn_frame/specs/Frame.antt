-- What the top call ensures, clause by clause, in one form for a single command and for a session. `Stands` says that contents stand
-- for a state, `Is` what a job comes to, `IsScript` what the words with the input are to do.
use Rattle.std.specs.Prelude.{◌≡◌, ◌≢◌, ◌≤◌, ◌+◌, ◌⊎◌, ◌++◌, ◌∷◌, [], ℕ, List, length, take, Bool, true, false, Option, Some, ⊤}
use Rattle.std.specs.Bool.{OnTrue}
use Rattle.std.specs.Io.KnownBytes.{Appends}
use Rattle.mtn_base.specs.declared.limits.TheConstants.{MAX_INPUT}
use Rattle.mtn_base.specs.declared.refusal.Refusal.{Refusal}
use Rattle.mtn_base.specs.Refusals.{refusal_text}
use Rattle.mtn_model.specs.Table.{Contents}
use Rattle.mtn_ports.specs.Causes.{Rose}
use Rattle.mtn_ports.specs.Kept.{Same, IfTold}
use Rattle.mtn_frame.specs.declared.script.Form.{Form}
use Rattle.mtn_frame.specs.declared.script.Form.TheVariants.{Plain}
use Rattle.mtn_frame.specs.declared.script.Job.{Job}
use Rattle.mtn_frame.specs.declared.script.Script.{Script}
use Rattle.mtn_frame.specs.declared.script.Script.TheVariants.{Bare, Framed}
use Rattle.mtn_model.specs.declared.status.Status.{Status}
use Rattle.mtn_model.specs.declared.status.Status.TheVariants as status
use Rattle.mtn_frame.specs.Kinds.{kind_of, ByKind, ByVouch}
use Rattle.mtn_frame.specs.Limit.{Past, Within}
use Rattle.mtn_frame.specs.One.{RefusesOne, Vouched}
use Rattle.mtn_frame.specs.Outcome.{JobOutcome}
use Rattle.mtn_frame.specs.Script.{jobs_of, Reaches, state_after, texts, printed, print_as, ending, usage_line}

-- what the keeper, the source and the sink tell at one moment
pub record Told : Type 0 where
  pub contents : Option Contents
  pub left : Option (List ℕ)
  pub written : Option (List ℕ)

-- how often each of them has failed, and how often the keeper was asked for a record
pub record Counts : Type 0 where
  pub keeper : ℕ
  pub source : ℕ
  pub sink : ℕ
  pub reads : ℕ

-- the records stand for s, a source that is read tells input, and the sink tells w
pub record Tells {S : Type 0} (Stands : Contents → S → Type 0) (reads : Bool) (at : Told) (s : S) (input w : List ℕ) : Type 0 where
  pub c : Contents
  pub contents : at.contents ≡ Some c
  pub stands : Stands c s
  pub left : OnTrue reads (at.left ≡ Some input)
  pub written : at.written ≡ Some w

-- a source that is read is at its end, and another is as it was
abbrev pub LeavesSource : Bool → Option (List ℕ) → Option (List ℕ) → Type 0
LeavesSource true old new = new ≡ Some []
LeavesSource false old new = new ≡ old

-- The outcomes of the first jobs of a list: the records stand for the state that they left, and just their answers were written.
pub record Walked {S : Type 0} (Stands : Contents → S → Type 0) (Is : Job → S → JobOutcome S → Type 0) (script : Script) (s : S) (jobs : List Job) (d : Contents) (written0 written1 : Option (List ℕ)) : Type 0 where
  pub outcomes : List (JobOutcome S)
  pub reaches : Reaches Is s jobs outcomes
  pub stands : Stands d (state_after s outcomes)
  pub written : Appends written0 written1 (texts script outcomes)

-- the same with one more, whose answer was cut short
pub record WalkedShort {S : Type 0} (Stands : Contents → S → Type 0) (Is : Job → S → JobOutcome S → Type 0) (script : Script) (s : S) (jobs : List Job) (d : Contents) (written0 written1 : Option (List ℕ)) : Type 0 where
  pub outcomes : List (JobOutcome S)
  pub last : JobOutcome S
  pub reaches : Reaches Is s jobs (outcomes ++ last ∷ [])
  pub stands : Stands d last.state
  pub front : ℕ
  pub written : Appends written0 written1 (texts script outcomes ++ take front (printed script (length outcomes) last))

-- all jobs were done and answered
pub record WalkedAll {S : Type 0} (Stands : Contents → S → Type 0) (Is : Job → S → JobOutcome S → Type 0) (script : Script) (s : S) (d : Contents) (written0 written1 : Option (List ℕ)) (result : Status) : Type 0 where
  pub walked : Walked Stands Is script s (jobs_of script) d written0 written1
  pub all : length walked.outcomes ≡ length (jobs_of script)
  pub status : result ≡ ending script walked.outcomes

-- a bare job that is not answered leaves all as it was
abbrev pub HasNone : {S : Type 0} → Script → List (JobOutcome S) → Type 0
HasNone (Bare job) outcomes = outcomes ≡ []
HasNone (Framed jobs) outcomes = ⊤

-- the work was halted: some jobs were done and answered, and no more
pub record Stopped {S : Type 0} (Stands : Contents → S → Type 0) (Is : Job → S → JobOutcome S → Type 0) (script : Script) (s : S) (d : Contents) (written0 written1 : Option (List ℕ)) : Type 0 where
  pub walked : Walked Stands Is script s (jobs_of script) d written0 written1
  pub none : HasNone script walked.outcomes

-- what the jobs of a script leave over an outside that tells, by the kind of the status
abbrev pub RunsOver : {S : Type 0} → (Contents → S → Type 0) → (Job → S → JobOutcome S → Type 0) → Script → S → Contents → Option (List ℕ) → Option (List ℕ) → Status → Type 0
RunsOver Stands Is script s d written0 written1 result =
    ByKind (kind_of result) (WalkedAll Stands Is script s d written0 written1 result) (WalkedShort Stands Is script s (jobs_of script) d written0 written1) (Stopped Stands Is script s d written0 written1) ⊥ ⊥

-- the records stand for the state after some of the jobs, one at least
pub record StandsAfterSome {S : Type 0} (Stands : Contents → S → Type 0) (Is : Job → S → JobOutcome S → Type 0) (s : S) (jobs : List Job) (e : Contents) : Type 0 where
  pub first : JobOutcome S
  pub more : List (JobOutcome S)
  pub reaches : Reaches Is s jobs (first ∷ more)
  pub stands : Stands e (state_after s (first ∷ more))

-- nothing was kept and nothing written
pub record Untouched (before after : Told) : Type 0 where
  pub contents : after.contents ≡ before.contents
  pub written : after.written ≡ before.written

-- all was done and answered, whole; a source that is read is at its end
pub record Done {S : Type 0} (Stands : Contents → S → Type 0) (Is : Job → S → JobOutcome S → Type 0) (IsScript : Script → Type 0) (s : S) (reads : Bool) (before after : Told) (d : Contents) (result : Status) : Type 0 where
  pub script : Script
  pub is : IsScript script
  pub all : WalkedAll Stands Is script s d before.written after.written result
  pub source : LeavesSource reads before.left after.left

-- the sink failed: the jobs up to one were done, the answers before that one's stand whole, and a front of it
pub record CutShort {S : Type 0} (Stands : Contents → S → Type 0) (Is : Job → S → JobOutcome S → Type 0) (IsScript : Script → Type 0) (s : S) (before after : Told) (d : Contents) : Type 0 where
  pub script : Script
  pub is : IsScript script
  pub some : WalkedShort Stands Is script s (jobs_of script) d before.written after.written

-- the store failed or memory was wanting: nothing was done, or some jobs were done and answered, and no more
abbrev pub StoppedShort : {S : Type 0} → (Contents → S → Type 0) → (Job → S → JobOutcome S → Type 0) → (Script → Type 0) → S → Told → Told → Contents → Type 0
StoppedShort Stands Is IsScript s before after d = Untouched before after ⊎ ((script : Script) × IsScript script × Stopped Stands Is script s d before.written after.written)

-- Over an outside that tells, and a keeper that still tells at the end.
abbrev pub Meets : {S : Type 0} → (Contents → S → Type 0) → (Job → S → JobOutcome S → Type 0) → (List ℕ → Script → Type 0) → Bool → Told → Told → Status → Type 0
Meets {S} Stands Is IsScript reads before after result = (s : S) (input w : List ℕ) (d : Contents) → Tells Stands reads before s input w → after.contents ≡ Some d →
    ByKind (kind_of result) (Done Stands Is (IsScript input) s reads before after d result) (CutShort Stands Is (IsScript input) s before after d) (StoppedShort Stands Is (IsScript input) s before after d) (Untouched before after) ⊥

-- the statuses that leave the records: of a single command all but Ok and SinkFault; of a session the ones that come before its
-- first request
abbrev pub keeps : Bool → Status → Bool
keeps session status.Ok = false
keeps session status.SinkFault = false
keeps session status.Refused = true
keeps session status.Usage = true
keeps session status.Conflicts = true
keeps session status.SourceFault = true
keeps session status.TooLong = true
keeps true status.StoreFault = false
keeps true status.NoMemory = false
keeps true status.Damaged = false
keeps false status.StoreFault = true
keeps false status.NoMemory = true
keeps false status.Damaged = true

abbrev pub LeavesRecords : Bool → Option Contents → Option Contents → Status → Type 0
LeavesRecords session old new result = OnTrue (keeps session result) (Same old new)

-- what is written, by the status alone, whatever the keeper tells; `Lines` says that a line shows a damage
abbrev pub Writes : (List ℕ → Type 0) → Bool → Option (List ℕ) → Option (List ℕ) → Status → Type 0
Writes Lines session old new status.Usage = Appends old new usage_line
Writes Lines session old new status.SourceFault = Appends old new []
Writes Lines session old new status.TooLong = Appends old new []
Writes Lines session old new status.Refused = (refusal : Refusal) × Appends old new (refusal_text refusal)
Writes Lines false old new status.StoreFault = Appends old new []
Writes Lines false old new status.NoMemory = Appends old new []
Writes Lines true old new status.StoreFault = ⊤
Writes Lines true old new status.NoMemory = ⊤
Writes Lines session old new status.Ok = ⊤
Writes Lines session old new status.Conflicts = ⊤
Writes Lines session old new status.SinkFault = ⊤
Writes Lines false old new status.Damaged = (line : List ℕ) × Lines line × Appends old new line
Writes Lines true old new status.Damaged = ⊤

-- the line of a damage of these records, alone
pub record ShowsDamage (Damages : Contents → List ℕ → Type 0) (c : Contents) (written0 written1 : Option (List ℕ)) : Type 0 where
  pub line : List ℕ
  pub is : Damages c line
  pub written : Appends written0 written1 line

-- the same behind other answers, as an answer is written
pub record ShowsLast (Damages : Contents → List ℕ → Type 0) (c : Contents) (written0 written1 : Option (List ℕ)) : Type 0 where
  pub before : List ℕ
  pub form : Form
  pub line : List ℕ
  pub is : Damages c line
  pub written : Appends written0 written1 (before ++ print_as form status.Damaged line)

-- by a single command, and by a session
abbrev pub Shows : (Contents → List ℕ → Type 0) → Bool → Contents → Option (List ℕ) → Option (List ℕ) → Type 0
Shows Damages false c written0 written1 = ShowsDamage Damages c written0 written1
Shows Damages true c written0 written1 = ShowsLast Damages c written0 written1

abbrev pub TellsDamage : (Contents → List ℕ → Type 0) → Bool → Told → Told → Status → Type 0
TellsDamage Damages session before after result = result ≡ status.Damaged → IfTold after.contents (λ c. Shows Damages session c before.written after.written)

-- Each status comes only by its cause, over every source, sink and keeper.
pub record HasCauses (session spelled merges reads : Bool) (before after : Told) (counts0 counts1 : Counts) (result : Status) : Type 0 where
  pub usage : result ≡ status.Usage → spelled ≡ false
  pub words : spelled ≡ false → (result ≡ status.Usage) ⊎ ((result ≡ status.NoMemory) ⊎ (result ≡ status.SinkFault))
  pub conflicts : result ≡ status.Conflicts → merges ≡ true
  pub source : result ≡ status.SourceFault → Rose counts0.source counts1.source
  pub sink : result ≡ status.SinkFault → Rose counts0.sink counts1.sink
  pub store : result ≡ status.StoreFault → Rose counts0.keeper counts1.keeper
  pub too_long : result ≡ status.TooLong → (reads ≡ true) × Past before.left after.left
  pub within : result ≢ status.TooLong → result ≢ status.NoMemory → Within before.left after.left
  pub unread : reads ≡ false → after.left ≡ before.left

-- no count of faults rose
pub record NoFault (before after : Counts) : Type 0 where
  pub keeper : Rose before.keeper after.keeper → ⊥
  pub source : Rose before.source after.source → ⊥
  pub sink : Rose before.sink after.sink → ⊥

-- where nothing failed and the input is within its limit, all is done and answered, or memory is wanting
abbrev pub Completes : {S : Type 0} → (Contents → S → Type 0) → (Job → S → JobOutcome S → Type 0) → (List ℕ → Script → Type 0) → Bool → Told → Told → Counts → Counts → Status → Type 0
Completes {S} Stands Is IsScript reads before after counts0 counts1 result = (s : S) (input w : List ℕ) (d : Contents) → Tells Stands reads before s input w → after.contents ≡ Some d → NoFault counts0 counts1 → length input ≤ MAX_INPUT →
    Done Stands Is (IsScript input) s reads before after d result ⊎ (result ≡ status.NoMemory)

-- a crash leaves what it might have left before, or records that stand for the state after some of the jobs
abbrev pub Survives : {S : Type 0} → (Contents → S → Type 0) → (Job → S → JobOutcome S → Type 0) → (List ℕ → Script → Type 0) → Bool → Told → Told → (Contents → Type 0) → (Contents → Type 0) → Type 0
Survives {S} Stands Is IsScript reads before after may0 may1 = (s : S) (input w : List ℕ) (d e : Contents) → Tells Stands reads before s input w → after.contents ≡ Some d →
    may1 e → may0 e ⊎ ((script : Script) × IsScript input script × StandsAfterSome Stands Is s (jobs_of script) e)

-- a state that outcomes of some jobs lead to
pub record IsReached {S : Type 0} (Is : Job → S → JobOutcome S → Type 0) (s t : S) : Type 0 where
  pub jobs : List Job
  pub outcomes : List (JobOutcome S)
  pub reaches : Reaches Is s jobs outcomes
  pub is : t ≡ state_after s outcomes

-- told records that stand for a state go on to stand for one that jobs lead to, whatever the source and the sink do
abbrev pub StaysLawful : {S : Type 0} → (Contents → S → Type 0) → (Job → S → JobOutcome S → Type 0) → Option Contents → Option Contents → Type 0
StaysLawful {S} Stands Is old new = (c d : Contents) (s : S) → old ≡ Some c → new ≡ Some d → Stands c s → (t : S) × Stands d t × IsReached Is s t

-- a single command asks for no more records than it says, over told records that stand for a state
abbrev pub AsksFew : {S : Type 0} → (Contents → S → Type 0) → (List ℕ → S → ℕ → Type 0) → Bool → Bool → Told → Told → Counts → Counts → Type 0
AsksFew {S} Stands Bounded session reads before after counts0 counts1 = session ≡ false → (c d : Contents) (s : S) (input : List ℕ) (n : ℕ) → before.contents ≡ Some c → after.contents ≡ Some d → Stands c s → OnTrue reads (before.left ≡ Some input) →
    Bounded input s n → counts1.reads ≤ counts0.reads + n

-- a single command changes told records only as it says, whatever its status
abbrev pub ChangesOnly : (List ℕ → Contents → Contents → Type 0) → Bool → Bool → Told → Told → Type 0
ChangesOnly Changes session reads before after = session ≡ false → (c d : Contents) (input : List ℕ) → before.contents ≡ Some c → after.contents ≡ Some d → OnTrue reads (before.left ≡ Some input) → (d ≡ c) ⊎ Changes input c d

-- what a single command that vouches for the store says of told records: that they stand for a state, why it is refused, or their
-- first damage
abbrev pub VouchesBare : {S : Type 0} → (Contents → S → Type 0) → (Contents → List ℕ → Type 0) → (Contents → Refusal → Type 0) → (S → JobOutcome S → Type 0) → Contents → Option (List ℕ) → Option (List ℕ) → Status → Type 0
VouchesBare Stands Firsts Refuses Outcomes d written0 written1 result = ByVouch result (Vouched Stands Outcomes Plain d written0 written1 result) (RefusesOne Refuses Plain d written0 written1) (ShowsDamage Firsts d written0 written1)

-- the same of words that vouch, whatever the records are that are told at the end
abbrev pub Vouches : {S : Type 0} → (Contents → S → Type 0) → (Contents → List ℕ → Type 0) → (Contents → Refusal → Type 0) → (S → JobOutcome S → Type 0) → Bool → Told → Told → Status → Type 0
Vouches Stands Firsts Refuses Outcomes vouched before after result = vouched ≡ true → (d : Contents) → after.contents ≡ Some d → VouchesBare Stands Firsts Refuses Outcomes d before.written after.written result
