-- A script is what the top call is to do: one job, whose answer is written bare, or the jobs of a session, whose answers are
-- framed.
use Rattle.std.specs.Prelude.{◌≡◌, ◌⊎◌, ◌&&◌, ℕ, suc, List, [], ◌∷◌, ◌++◌, length, map, Bool, true, false, codes, decimal, bytes_eq, ⊤}
use Rattle.mtn_base.specs.declared.refusal.Refusal.{Refusal}
use Rattle.mtn_base.specs.declared.refusal.Cause.TheVariants.{BadRequest}
use Rattle.mtn_base.specs.Refusals.{refusal_text}
use Rattle.mtn_frame.specs.Outcome.{JobOutcome}
use Rattle.mtn_model.specs.Table.{Contents}
use Rattle.mtn_model.specs.Outcome.{number_of}
use Rattle.mtn_frame.specs.declared.script.Job.{Job}
use Rattle.mtn_frame.specs.declared.script.Job.TheVariants.{Call, BadInput}
use Rattle.mtn_frame.specs.declared.script.Form.{Form}
use Rattle.mtn_frame.specs.declared.script.Form.TheVariants.{Plain, Numbered}
use Rattle.mtn_frame.specs.declared.script.Script.{Script}
use Rattle.mtn_frame.specs.declared.script.Script.TheVariants.{Bare, Framed}
use Rattle.mtn_frame.specs.declared.requests.Request.{Request}
use Rattle.mtn_model.specs.declared.status.Status.{Status}
use Rattle.mtn_model.specs.declared.status.Status.TheVariants as status
use Rattle.mtn_frame.specs.Requests.{IsListOf, BreaksAt}

-- what words with a payload come to over a state; one line a command
abbrev pub Commands : Type 0 → Type 1
Commands S = List (List ℕ) → List ℕ → S → JobOutcome S → Type 0

-- the line of a refusal; the state is left
abbrev pub refused : {S : Type 0} → Refusal → S → JobOutcome S
refused refusal s = record { state = s; output = refusal_text refusal; status = status.Refused }

abbrev pub usage_line : List ℕ
usage_line = codes "usage" ++ 10 ∷ []

-- the line that refuses an input which is no list of requests
abbrev pub bad_request : ℕ → Refusal
bad_request number = record { packet = 0; cause = BadRequest number }

-- how many records words with a payload ask for at most over a state
abbrev pub Bounds : Type 0 → Type 1
Bounds S = List (List ℕ) → List ℕ → S → ℕ → Type 0

-- the same of a job; to refuse an input asks for none
abbrev pub BoundsJob : {S : Type 0} → Bounds S → Job → S → ℕ → Type 0
BoundsJob bounds (Call words payload) = bounds words payload
BoundsJob bounds (BadInput number) = λ s n. ⊤

-- what words with a payload may change of records
abbrev pub Changing : Type 1
Changing = List (List ℕ) → List ℕ → Contents → Contents → Type 0

-- the same of a job; to refuse an input changes nothing
abbrev pub ChangesJob : Changing → Job → Contents → Contents → Type 0
ChangesJob changing (Call words payload) = changing words payload
ChangesJob changing (BadInput number) = λ c d. ⊥

-- what a job comes to
abbrev pub Does : {S : Type 0} → Commands S → Job → S → JobOutcome S → Type 0
Does commands (Call words payload) = commands words payload
Does commands (BadInput number) = λ s o. o ≡ refused (bad_request number) s

abbrev pub jobs_of : Script → List Job
jobs_of (Bare job) = job ∷ []
jobs_of (Framed jobs) = jobs

-- Outcomes of the first jobs, each at the state that the one before left. Nothing is said of the jobs behind them.
abbrev pub Reaches : {S : Type 0} → (Job → S → JobOutcome S → Type 0) → S → List Job → List (JobOutcome S) → Type 0
Reaches Is s jobs [] = ⊤
Reaches Is s [] (o ∷ os) = ⊥
Reaches Is s (job ∷ jobs) (o ∷ os) = Is job s o × Reaches Is o.state jobs os

-- the state that they left
abbrev pub state_after : {S : Type 0} → S → List (JobOutcome S) → S
state_after s [] = s
state_after s (o ∷ os) = state_after o.state os

-- the answer to request n of a session, counted from 0
abbrev pub framed : ℕ → Status → List ℕ → List ℕ
framed n result text = decimal n ++ codes ":m:" ++ decimal (length text) ++ 58 ∷ text ++ decimal n ++ codes ":l:1:" ++ decimal (number_of result)

-- how an answer is written
abbrev pub print_as : Form → Status → List ℕ → List ℕ
print_as Plain result text = text
print_as (Numbered n) result text = framed n result text

abbrev pub form_of : Script → ℕ → Form
form_of (Bare job) n = Plain
form_of (Framed jobs) n = Numbered n

-- the n-th answer
abbrev pub printed : {S : Type 0} → Script → ℕ → JobOutcome S → List ℕ
printed script n o = print_as (form_of script n) o.status o.output

-- answers from the n-th on
abbrev pub texts_from : {S : Type 0} → Script → ℕ → List (JobOutcome S) → List ℕ
texts_from script n [] = []
texts_from script n (o ∷ os) = printed script n o ++ texts_from script (suc n) os

abbrev pub texts : {S : Type 0} → Script → List (JobOutcome S) → List ℕ
texts script outcomes = texts_from script 0 outcomes

-- a single command ends with the status of its outcome, a session with Ok
abbrev pub last_status : {S : Type 0} → Status → List (JobOutcome S) → Status
last_status before [] = before
last_status before (o ∷ os) = last_status o.status os

abbrev pub ending : {S : Type 0} → Script → List (JobOutcome S) → Status
ending (Bare job) outcomes = last_status status.Ok outcomes
ending (Framed jobs) outcomes = status.Ok

-- the words of a session: its name alone, or with the word that ends options
abbrev pub is_session : List (List ℕ) → Bool
is_session [] = false
is_session (word ∷ []) = bytes_eq word (codes "stdio")
is_session (word ∷ end ∷ []) = bytes_eq word (codes "stdio") && bytes_eq end (codes "--")
is_session (_ ∷ _ ∷ _ ∷ _) = false

-- all but the last, and the last
abbrev pub front_of : List (List ℕ) → List (List ℕ)
front_of [] = []
front_of (word ∷ []) = []
front_of (word ∷ next ∷ rest) = word ∷ front_of (next ∷ rest)

abbrev pub last_of : List (List ℕ) → List ℕ
last_of [] = []
last_of (word ∷ []) = word
last_of (word ∷ next ∷ rest) = last_of (next ∷ rest)

-- the job of a request: its last word is the payload where the raw words ask for one
abbrev pub job_with : Bool → List (List ℕ) → Job
job_with true words = Call (front_of words) (last_of words)
job_with false words = Call words []

abbrev pub job_of : (List (List ℕ) → Bool) → Request → Job
job_of takes r = job_with (takes r.words) r.words

-- what a session is to do: its requests, or to refuse an input that is no list of requests
abbrev pub IsSession : (List (List ℕ) → Bool) → List ℕ → Script → Type 0
IsSession takes input script =
    ((requests : List Request) × IsListOf input requests × (script ≡ Framed (map (job_of takes) requests)))
    ⊎ ((number : ℕ) × BreaksAt input number × (script ≡ Bare (BadInput number)))

-- what words with an input are to do; `input` is what the source gives, and nothing for words that read none
abbrev pub IsScriptIf : Bool → (List (List ℕ) → Bool) → List (List ℕ) → List ℕ → Script → Type 0
IsScriptIf true takes words input script = IsSession takes input script
IsScriptIf false takes words input script = script ≡ Bare (Call words input)

abbrev pub IsScript : (List (List ℕ) → Bool) → List (List ℕ) → List ℕ → Script → Type 0
IsScript takes words input script = IsScriptIf (is_session words) takes words input script
