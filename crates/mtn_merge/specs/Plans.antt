-- What the calls answer.
use Rattle.std.specs.Prelude.{◌≡◌, ℕ, true, false, List, [], ◌∷◌, Option, Some, None, IsSome, Result, Ok, Err, ⊤}
use Rattle.mtn_base.specs.Hex.{id_of}
use Rattle.mtn_base.specs.declared.id.Id.{Id}
use Rattle.mtn_basic_io.specs.Spelling.{AreStanzas, spelling}
use Rattle.mtn_between.specs.Between.{between}
use Rattle.mtn_changes.specs.RevisionText.{revision_stanzas}
use Rattle.mtn_changes.specs.declared.change.Revision.{Revision as Spelled}
use Rattle.mtn_conflicts.specs.ConflictText.{IsLesser}
use Rattle.mtn_conflicts.specs.Lists.{AreClear}
use Rattle.mtn_conflicts.specs.Result.{NoneBornIn, result_of}
use Rattle.mtn_decide.specs.Decisions.{Merge}
use Rattle.mtn_history.specs.declared.errors.HistoryError.{HistoryError}
use Rattle.mtn_history.specs.declared.errors.HistoryError.TheVariants.{Refused, Store}
use Rattle.mtn_history_laws.specs.History.{Revision}
use Rattle.mtn_manifest.specs.Manifest.{manifest_of}
use Rattle.mtn_model.specs.Table.{Table}
use Rattle.mtn_plans.specs.Plans.{Plan, IsResult, IsUnborn, limit_refusal, merged_or, merge_revision, merge_text, Merges}
use Rattle.mtn_plans.specs.declared.outcome.MergeOutcome.{MergeOutcome}
use Rattle.mtn_plans.specs.declared.outcome.MergeOutcome.TheVariants.{Merged, Conflicted}
use Rattle.mtn_put_revision.specs.Keeping.{IsPlanned}
use Rattle.mtn_changeset_laws.specs.Changes.{or_else}
use Rattle.mtn_changeset_laws.specs.Laws.{NoneBornIn as IsNoBirth}
use Rattle.mtn_replay.specs.Making.{place_of, too_long, too_many}
use Rattle.mtn_roster.specs.Tree.{Tree}
use Rattle.mtn_merge.specs.declared.answer.Planned.{Planned}
use Rattle.mtn_merge.specs.declared.answer.Planned.TheVariants as planned

-- a call gives such a plan, unless the store fails
abbrev pub Gives : (Plan → Type 0) → Result MergeOutcome HistoryError → Type 0
Gives Is (Ok outcome) = Is (Ok outcome)
Gives Is (Err (Refused cause)) = Is (Err cause)
Gives Is (Err (Store e)) = ⊤

-- what is planned, without the text's id and its tree
abbrev pub outcome_of : Planned → MergeOutcome
outcome_of (planned.Merged text id tree) = Merged text
outcome_of (planned.Conflicted left right conflicts) = Conflicted left right conflicts

abbrev pub outcomes : Result Planned HistoryError → Result MergeOutcome HistoryError
outcomes (Ok plan) = Ok (outcome_of plan)
outcomes (Err e) = Err e

-- its ids: the text's own, or those of the sides, the lesser first
abbrev pub HasIds : (List ℕ → List ℕ) → Planned → Type 0
HasIds f (planned.Merged text id tree) = id.0 ≡ f text
HasIds f (planned.Conflicted left right conflicts) = IsLesser left right

-- only conflicts are shown
abbrev pub AreShown : MergeOutcome → Type 0
AreShown (Merged text) = ⊥
AreShown (Conflicted left right conflicts) = IsLesser left right

-- a revision with edges from two trees, and its text
abbrev pub revision_of_sides : (List ℕ → List ℕ) → Id → Tree → Id → Tree → Tree → Spelled
revision_of_sides f l left r right t = record {
  manifest = id_of (f (spelling (manifest_of t)));
  edges = record { parent = Some l; changes = between left t } ∷ record { parent = Some r; changes = between right t } ∷ [];
}

abbrev pub text_of_sides : (List ℕ → List ℕ) → Id → Tree → Id → Tree → Tree → List ℕ
text_of_sides f l left r right t = spelling (revision_stanzas (revision_of_sides f l left r right t))

-- a tree that decisions without conflicts make, and its text or why it is refused
abbrev pub IsMadeOf : (List ℕ → List ℕ) → List Revision → Id → Id → Merge → Plan → Type 0
IsMadeOf f h l r m plan = (t : Tree) × IsResult h l r m t × (plan ≡ merged_or (limit_refusal f h l r t) (merge_text f h l r t))

-- the tree that decisions make in a revision of an id that is no birth in two trees
abbrev pub IsMadeIn : Tree → Tree → Merge → Tree → Type 0
IsMadeIn left right m t = (first : Id) × IsNoBirth left first × IsNoBirth right first × (t ≡ result_of m first)

-- the first limit that it is not within, unless memory is wanting
abbrev pub IsLimitOf : Tree → Tree → Merge → HistoryError → Type 0
IsLimitOf left right m (Refused cause) = (t : Tree) × IsMadeIn left right m t × (or_else (too_many t) (too_long t) ≡ Some cause)
IsLimitOf left right m (Store e) = ⊤

-- the tree that decisions make in a revision of an id; none where the id is the birth of a node that is decided
abbrev pub IsTreeIn : Merge → Id → Option Tree → Type 0
IsTreeIn m id (Some t) = t ≡ result_of m id
IsTreeIn m id None = ¬ NoneBornIn m.nodes id

-- A text with its id and the tree in a revision of that id. The text is that of the tree which the same decisions make in a revision
-- of an id that is no birth: within the limits, and its stanzas are stanzas
pub record IsKept (f : List ℕ → List ℕ) (h : List Revision) (l r : Id) (m : Merge) (text : List ℕ) (id : Id) (tree : Option Tree) : Type 0 where
  pub first : Id
  pub unborn : IsUnborn h l r first
  pub within : limit_refusal f h l r (result_of m first) ≡ None
  pub spelled : text ≡ merge_text f h l r (result_of m first)
  pub stanzas : AreStanzas (revision_stanzas (merge_revision f h l r (result_of m first)))
  pub named : id.0 ≡ f text
  pub made : IsTreeIn m id tree

abbrev pub HasKept : (List ℕ → List ℕ) → List Revision → Id → Id → Merge → Planned → Type 0
HasKept f h l r m (planned.Merged text id tree) = IsKept f h l r m text id tree
HasKept f h l r m (planned.Conflicted left right conflicts) = ⊤

-- the same of decisions without conflicts
abbrev pub HasClear : (List ℕ → List ℕ) → List Revision → Id → Id → Merge → Planned → Type 0
HasClear f h l r m (planned.Merged text id tree) = AreClear m × IsKept f h l r m text id tree
HasClear f h l r m (planned.Conflicted left right conflicts) = ⊤

-- the tree that is handed on is the one that the text makes; there is none only where a revision with the text's id is held
abbrev pub HasTree : (List ℕ → List ℕ) → Table → List Revision → Planned → Type 0
HasTree f files h (planned.Merged text id (Some t)) = IsPlanned f files h text t
HasTree f files h (planned.Merged text id None) = IsSome (place_of h id)
HasTree f files h (planned.Conflicted left right conflicts) = ⊤

-- what a merge comes to with the resolutions of a text, or with none
abbrev pub MergesText : (List ℕ → List ℕ) → Table → List Revision → Id → Id → Option (List ℕ) → Plan → Type 0
MergesText f files h a b (Some text) = Merges f files h a b true text
MergesText f files h a b None = Merges f files h a b false []
