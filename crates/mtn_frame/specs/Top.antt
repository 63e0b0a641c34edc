-- From words and a source to a script.
use Rattle.std.specs.Prelude.{◌≡◌, ◌&&◌, ◌||◌, not, ℕ, List, [], Bool, true, false, Option}
use Rattle.std.specs.Io.KnownBytes.{Consumes, IsAtEnd}
use Rattle.mtn_base.specs.declared.refusal.Refusal.{Refusal}
use Rattle.mtn_model.specs.Table.{Contents}
use Rattle.mtn_frame.specs.declared.script.Job.{Job}
use Rattle.mtn_frame.specs.declared.script.Script.{Script}
use Rattle.mtn_model.specs.declared.status.Status.{Status}
use Rattle.mtn_frame.specs.Outcome.{JobOutcome}
use Rattle.mtn_frame.specs.Script.{is_session}
use Rattle.mtn_frame.specs.Frame.{Told, Counts, Meets, LeavesRecords, Writes, TellsDamage, HasCauses, Completes, Survives, StaysLawful, AsksFew, ChangesOnly, Vouches}

-- words are in the grammar: a command's, or those of a session
abbrev pub in_grammar : (List (List ℕ) → Bool) → List (List ℕ) → Bool
in_grammar spelled words = is_session words || spelled words

abbrev pub is_merge : (List (List ℕ) → Bool) → List (List ℕ) → Bool
is_merge merging words = not (is_session words) && merging words

abbrev pub is_vouch : (List (List ℕ) → Bool) → List (List ℕ) → Bool
is_vouch vouching words = not (is_session words) && vouching words

-- the source is read by a session, and by a command that takes a payload
abbrev pub reads : (List (List ℕ) → Bool) → (List (List ℕ) → Bool) → List (List ℕ) → Bool
reads spelled takes words = is_session words || (spelled words && takes words)

-- what is given of the input
abbrev pub fed : Bool → List ℕ → List ℕ
fed true input = input
fed false input = []

-- what was given of the source
abbrev pub Feeds : Bool → Option (List ℕ) → Option (List ℕ) → List ℕ → Type 0
Feeds true old new payload = Consumes old new payload × IsAtEnd new
Feeds false old new payload = (payload ≡ []) × (new ≡ old)

-- what words come to with what was given of the source
abbrev pub ComesTo : {S : Type 0} → (List ℕ → S → JobOutcome S → Type 0) → Bool → Option (List ℕ) → Option (List ℕ) → S → JobOutcome S → Type 0
ComesTo Outcomes reads old new s o = (input : List ℕ) × Feeds reads old new input × Outcomes input s o

-- a source that is not read is as it was
abbrev pub Unread : Bool → Option (List ℕ) → Option (List ℕ) → Type 0
Unread reads old new = reads ≡ false → new ≡ old

-- all clauses of the top call
pub record Runs {S : Type 0} (Stands : Contents → S → Type 0) (Damages Firsts : Contents → List ℕ → Type 0) (Refuses : Contents → Refusal → Type 0) (Lines : List ℕ → Type 0) (Is : Job → S → JobOutcome S → Type 0) (Bounded : List ℕ → S → ℕ → Type 0) (Changes : List ℕ → Contents → Contents → Type 0) (Outcomes : List ℕ → S → JobOutcome S → Type 0) (Scripts : List ℕ → Script → Type 0) (session spelled merges vouched read : Bool)
    (before after : Told) (counts0 counts1 : Counts) (may0 may1 : Contents → Type 0) (result : Status) : Type 0 where
  pub meets : Meets Stands Is Scripts read before after result
  pub same : LeavesRecords session before.contents after.contents result
  pub written : Writes Lines session before.written after.written result
  pub damage : TellsDamage Damages session before after result
  pub lawful : StaysLawful Stands Is before.contents after.contents
  pub causes : HasCauses session spelled merges read before after counts0 counts1 result
  pub complete : Completes Stands Is Scripts read before after counts0 counts1 result
  pub crash : Survives Stands Is Scripts read before after may0 may1
  pub few_reads : AsksFew Stands Bounded session read before after counts0 counts1
  pub changes : ChangesOnly Changes session read before after
  pub vouches : Vouches Stands Firsts Refuses (ComesTo Outcomes read before.left after.left) vouched before after result
