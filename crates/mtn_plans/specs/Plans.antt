-- What a merge comes to: its first refusal, its conflicts, or its text. The limits and the order are our choice.
use Rattle.std.specs.Prelude.{◌≡◌, ◌⊎◌, ℕ, Bool, List, length, nat_lt, if◌then◌else◌, Option, Some, None, Result, Ok, Err}
use Rattle.mtn_base.specs.Hex.{id_of}
use Rattle.mtn_base.specs.declared.id.Id.{Id}
use Rattle.mtn_base.specs.declared.limits.TheConstants.{MAX_TEXT}
use Rattle.mtn_base.specs.declared.refusal.Cause.{Cause}
use Rattle.mtn_base.specs.declared.refusal.Cause.TheVariants.{TextTooLong}
use Rattle.mtn_basic_io.specs.Spelling.{spelling}
use Rattle.mtn_changes.specs.declared.change.Revision.{Revision as Spelled}
use Rattle.mtn_changes.specs.RevisionText.{revision_stanzas}
use Rattle.mtn_changeset_laws.specs.Changes.{or_else}
use Rattle.mtn_changeset_laws.specs.Laws.{NoneBornIn}
use Rattle.mtn_conflicts.specs.declared.lists.Conflicts.{Conflicts}
use Rattle.mtn_conflicts.specs.Lists.{AreConflictsOf, IsNone}
use Rattle.mtn_conflicts.specs.Result.{result_of}
use Rattle.mtn_decide.specs.Decisions.{Merge}
use Rattle.mtn_history_laws.specs.History.{Revision}
use Rattle.mtn_manifest.specs.Manifest.{manifest_of}
use Rattle.mtn_merging.specs.MergeEdges.{merge_edges}
use Rattle.mtn_model.specs.Table.{Table}
use Rattle.mtn_replay.specs.Making.{parent_tree, too_many, too_long}
use Rattle.mtn_resolve.specs.declared.resolution.Resolution.{Resolution}
use Rattle.mtn_resolve.specs.Overriding.{overridden}
use Rattle.mtn_roster.specs.Tree.{Tree}
use Rattle.mtn_plans.specs.declared.outcome.MergeOutcome.{MergeOutcome}
use Rattle.mtn_plans.specs.declared.outcome.MergeOutcome.TheVariants.{Merged, Conflicted}
use Rattle.mtn_plans.specs.Given.{IsChecked, IsGiven}
use Rattle.mtn_plans.specs.Sides.{left_of, right_of, side_refusal, IsMergeAt}

-- a merge that is not refused, or why it is
abbrev pub Plan : Type 0
Plan = Result MergeOutcome Cause

-- the id is no birth on either side
abbrev pub IsUnborn : List Revision → Id → Id → Id → Type 0
IsUnborn h l r x = NoneBornIn (parent_tree h (Some l)) x × NoneBornIn (parent_tree h (Some r)) x

-- the tree that decisions without conflicts make, as of a revision with such an id
abbrev pub IsResult : List Revision → Id → Id → Merge → Tree → Type 0
IsResult h l r m t = (x : Id) × IsUnborn h l r x × (t ≡ result_of m x)

-- more than 64 MiB
abbrev pub text_refusal : List ℕ → Option Cause
text_refusal text = if nat_lt MAX_TEXT (length text) then Some (TextTooLong (length text)) else None

-- the refusal, if there is one, and else the text
abbrev pub merged_or : Option Cause → List ℕ → Plan
merged_or (Some cause) text = Err cause
merged_or None text = Ok (Merged text)

module _ (f : List ℕ → List ℕ) (h : List Revision) (l r : Id) where
  -- the revision of the merged tree
  abbrev pub merge_revision : Tree → Spelled
  merge_revision t = record { manifest = id_of (f (spelling (manifest_of t))); edges = merge_edges h l r t }

  abbrev pub merge_text : Tree → List ℕ
  merge_text t = spelling (revision_stanzas (merge_revision t))

  -- the first of: too many nodes, a path that is too long, a text of more than 64 MiB
  abbrev pub limit_refusal : Tree → Option Cause
  limit_refusal t = or_else (too_many t) (or_else (too_long t) (text_refusal (merge_text t)))

  -- the decisions have conflicts
  pub record IsConflicted (d : Conflicts) (plan : Plan) : Type 0 where
    pub some : ¬ IsNone d
    pub is : plan ≡ Ok (Conflicted l r d)

  -- they have none, and make a tree
  pub record IsMade (m : Merge) (d : Conflicts) (plan : Plan) : Type 0 where
    pub none : IsNone d
    pub tree : Tree
    pub makes : IsResult h l r m tree
    pub is : plan ≡ merged_or (limit_refusal tree) (merge_text tree)

  -- what decisions come to that no resolution overrides any more
  pub record Ends (m : Merge) (plan : Plan) : Type 0 where
    pub conflicts : Conflicts
    pub are : AreConflictsOf m conflicts
    pub ends : IsConflicted conflicts plan ⊎ IsMade m conflicts plan

  -- the resolutions are refused, or they override
  abbrev pub EndsUnless : Option Cause → List Resolution → Merge → Plan → Type 0
  EndsUnless (Some cause) rs m plan = plan ≡ Err cause
  EndsUnless None rs m plan = Ends (overridden rs m) plan

  -- what a merge of two unrelated revisions comes to
  pub record PlansSides (files : Table) (rs : List Resolution) (plan : Plan) : Type 0 where
    pub merge : Merge
    pub decides : IsMergeAt h l r merge
    pub conflicts : Conflicts
    pub are : AreConflictsOf merge conflicts
    pub refusal : Option Cause
    pub checked : IsChecked files merge conflicts rs refusal
    pub ends : EndsUnless refusal rs merge plan

  -- the same with the resolutions that are given, or their refusal
  abbrev pub PlansGiven : Table → Result (List Resolution) Cause → Plan → Type 0
  PlansGiven files (Err cause) plan = plan ≡ Err cause
  PlansGiven files (Ok rs) plan = PlansSides files rs plan

  -- the same with those of a payload, where it has them
  abbrev pub PlansPayload : Table → Bool → List ℕ → Plan → Type 0
  PlansPayload files resolves payload plan = (given : Result (List Resolution) Cause) × IsGiven resolves payload given × PlansGiven files given plan

-- the conflicts of two unrelated revisions, also where there are none
pub record LooksAtSides (h : List Revision) (l r : Id) (plan : Plan) : Type 0 where
  pub merge : Merge
  pub decides : IsMergeAt h l r merge
  pub conflicts : Conflicts
  pub are : AreConflictsOf merge conflicts
  pub is : plan ≡ Ok (Conflicted l r conflicts)

-- the refusal, if there is one, and else this
abbrev pub Unless : Option Cause → (Plan → Type 0) → Plan → Type 0
Unless (Some cause) Is plan = plan ≡ Err cause
Unless None Is plan = Is plan

-- what a merge of two revisions comes to
abbrev pub Plans : (List ℕ → List ℕ) → Table → List Revision → Id → Id → List Resolution → Plan → Type 0
Plans f files h a b rs = Unless (side_refusal h a b) (PlansSides f h (left_of a b) (right_of a b) files rs)

-- the same with the resolutions of a payload, where it has them
abbrev pub Merges : (List ℕ → List ℕ) → Table → List Revision → Id → Id → Bool → List ℕ → Plan → Type 0
Merges f files h a b resolves payload = Unless (side_refusal h a b) (PlansPayload f h (left_of a b) (right_of a b) files resolves payload)

-- what is shown of it
abbrev pub Looks : List Revision → Id → Id → Plan → Type 0
Looks h a b = Unless (side_refusal h a b) (LooksAtSides h (left_of a b) (right_of a b))
