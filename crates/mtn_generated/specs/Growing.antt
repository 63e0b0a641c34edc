-- What a state becomes by a generated history. Its files and revisions go in as by `put_file`, `put_revision` and `merge`; that an
-- empty log is asked for, and that all revisions are kept or none, are our choice.
use Rattle.std.specs.Prelude.{◌≡◌, ℕ, zero, suc, ◌==◌, false, if◌then◌else◌, List, [], ◌∷◌, length, Option, Some, None, Result, Ok, Err}
use Rattle.mtn_base.specs.Hex.{id_of}
use Rattle.mtn_base.specs.declared.id.Id.{Id}
use Rattle.mtn_base.specs.declared.refusal.Cause.{Cause}
use Rattle.mtn_base.specs.declared.refusal.Cause.TheVariants.{StoreNotEmpty}
use Rattle.mtn_changeset_laws.specs.Changes.{or_else}
use Rattle.mtn_conflicts.specs.declared.lists.Conflicts.{Conflicts}
use Rattle.mtn_history_laws.specs.History.{Revision}
use Rattle.mtn_model.specs.State.{State}
use Rattle.mtn_plans.specs.Plans.{Merges, Plan}
use Rattle.mtn_plans.specs.declared.outcome.MergeOutcome.TheVariants.{Conflicted, Merged}
use Rattle.mtn_replay.specs.Accepting.{Decides}
use Rattle.mtn_replay.specs.Files.{file_refusal, with_file}
use Rattle.mtn_replay.specs.Lawful.{IsHistory}
use Rattle.mtn_generated.specs.Numbered.{Tips, Work, edge_fault, edge_of, edge_text, files_of, no_tips, tips_after, work_at}
use Rattle.mtn_generated.specs.Numbered.Work.{Begins, Joins, Patches, Renames, Sets}

-- the state, and the tips, after some revisions
pub record Grown : Type 0 where
  pub state : State
  pub tips : Tips

abbrev pub grown : State → Tips → Grown
grown s tips = record { state = s; tips = tips }

-- why no revisions are kept: a refusal, or the conflicts of a merge
pub data Stop : Type 0 where
  Refused : (cause : Cause) → Stop
  Conflicting : (left right : Id) (conflicts : Conflicts) → Stop

abbrev pub GrowthAnswer : Type 0
GrowthAnswer = Result Grown Stop

abbrev pub grown_or : Option Cause → Grown → GrowthAnswer
grown_or (Some cause) g = Err (Refused cause)
grown_or None g = Ok g

-- the refusal, if there is one, and else this
abbrev pub Unless : Option Cause → (GrowthAnswer → Type 0) → GrowthAnswer → Type 0
Unless (Some cause) Is answer = answer ≡ Err (Refused cause)
Unless None Is answer = Is answer

-- from what has grown this follows; what has stopped stays so
abbrev pub Onward : GrowthAnswer → (Grown → GrowthAnswer → Type 0) → GrowthAnswer → Type 0
Onward (Err stop) Next answer = answer ≡ Err stop
Onward (Ok g) Next answer = Next g answer

-- texts as files, one after the other: the first refusal, and the state with all of them
abbrev pub files_refusal : (List ℕ → List ℕ) → State → List (List ℕ) → Option Cause
files_refusal f s [] = None
files_refusal f s (text ∷ rest) = or_else (file_refusal f s text) (files_refusal f (with_file f s text) rest)

abbrev pub with_files : (List ℕ → List ℕ) → State → List (List ℕ) → State
with_files f s [] = s
with_files f s (text ∷ rest) = with_files f (with_file f s text) rest

module _ (f : List ℕ → List ℕ) (work : Work) (tips : Tips) (s : State) where
  -- a text as the next revision
  pub record PutsText (text : List ℕ) (answer : GrowthAnswer) : Type 0 where
    pub refusal : Option Cause
    pub after : State
    pub decides : Decides f s text refusal after
    pub is : answer ≡ grown_or refusal (grown after (tips_after work (id_of (f text)) tips))

  -- Revision i, which has one edge. Where its changes make no tree, no text can name one: that is the refusal
  pub record PutsEdge (i : ℕ) (answer : GrowthAnswer) : Type 0 where
    pub history : List Revision
    pub spelled : IsHistory f s.files s.log history
    pub puts : Unless (edge_fault history (edge_of f i work tips)) (PutsText (edge_text f history (edge_of f i work tips))) answer

  -- the plan of a merge is carried out
  abbrev pub Carries : Plan → GrowthAnswer → Type 0
  Carries (Err cause) answer = answer ≡ Err (Refused cause)
  Carries (Ok (Conflicted left right conflicts)) answer = answer ≡ Err (Conflicting left right conflicts)
  Carries (Ok (Merged text)) answer = PutsText text answer

  -- the merge of the tips, without resolutions
  pub record MergesTips (answer : GrowthAnswer) : Type 0 where
    pub history : List Revision
    pub spelled : IsHistory f s.files s.log history
    pub plan : Plan
    pub planned : Merges f s.files history tips.left tips.right false [] plan
    pub carried : Carries plan answer

-- revision i behind its files
abbrev pub AddsWork : (List ℕ → List ℕ) → ℕ → Tips → State → Work → GrowthAnswer → Type 0
AddsWork f i tips s Joins answer = MergesTips f Joins tips s answer
AddsWork f i tips s Begins answer = PutsEdge f Begins tips s i answer
AddsWork f i tips s Patches answer = PutsEdge f Patches tips s i answer
AddsWork f i tips s Sets answer = PutsEdge f Sets tips s i answer
AddsWork f i tips s Renames answer = PutsEdge f Renames tips s i answer

-- its files, and then the revision
abbrev pub Adds : (List ℕ → List ℕ) → ℕ → Work → Grown → GrowthAnswer → Type 0
Adds f i work g = Unless (files_refusal f g.state (files_of i work)) (AddsWork f i g.tips (with_files f g.state (files_of i work)) work)

-- the first n revisions, each behind the one before it
abbrev pub Grows : (List ℕ → List ℕ) → State → ℕ → GrowthAnswer → Type 0
Grows f s zero answer = answer ≡ Ok (grown s no_tips)
Grows f s (suc n) answer = (before : GrowthAnswer) × Grows f s n before × Onward before (Adds f (suc n) (work_at (suc n))) answer

-- a log that has a revision already, with their number
abbrev pub store_refusal : State → Option Cause
store_refusal s = if length s.log == 0 then None else Some (StoreNotEmpty (length s.log))

-- What generating n revisions over a state comes to: the first refusal, or the state with all of them
abbrev pub Generates : (List ℕ → List ℕ) → ℕ → State → GrowthAnswer → Type 0
Generates f n s = Unless (store_refusal s) (Grows f s n)
