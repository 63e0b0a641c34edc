-- What a merge comes to, in the words of its conflicts and its tree.
use Rattle.std.specs.Prelude.{◌≡◌, ◌⊎◌, ℕ, Bool, List, [], ◌∷◌, ◌++◌, Some, None, Ok}
use Rattle.mtn_base.specs.Hex.{id_of}
use Rattle.mtn_base.specs.declared.id.Id.{Id}
use Rattle.mtn_conflicts.specs.declared.lists.Conflicts.{Conflicts}
use Rattle.mtn_conflicts.specs.Lists.{AreConflictsOf}
use Rattle.mtn_conflicts.specs.Result.{result_of}
use Rattle.mtn_decide.specs.Decisions.{Merge}
use Rattle.mtn_history_laws.specs.History.{Revision}
use Rattle.mtn_model.specs.Outcome.{Outcome}
use Rattle.mtn_model.specs.State.{State}
use Rattle.mtn_model.specs.declared.status.Status.TheVariants as status
use Rattle.mtn_plans.specs.Given.{IsChecked, IsGiven}
use Rattle.mtn_plans.specs.Plans.{limit_refusal, merge_text}
use Rattle.mtn_plans.specs.Sides.{IsMergeAt, left_of, right_of, side_refusal}
use Rattle.mtn_replay.specs.Lawful.{IsHistory}
use Rattle.mtn_replay.specs.Making.{log_full}
use Rattle.mtn_replay.specs.Texts.{text_under}
use Rattle.mtn_resolve.specs.declared.resolution.Resolution.{Resolution}
use Rattle.mtn_roster.specs.Tree.{Tree, IsSane}
use Rattle.mtn_step.specs.Step.{done, id_line}

-- A merge of two revisions is in order: both are held and neither is an ancestor of the other; its resolutions are read, each fits
-- what is decided, and each content that they pick is held
pub record IsMergeInOrder (s : State) (h : List Revision) (a b : Id) (resolves : Bool) (payload : List ℕ) : Type 0 where
  pub sides : side_refusal h a b ≡ None
  pub resolutions : List Resolution
  pub given : IsGiven resolves payload (Ok resolutions)
  pub merge : Merge
  pub decides : IsMergeAt h (left_of a b) (right_of a b) merge
  pub before : Conflicts
  pub are : AreConflictsOf merge before
  pub checked : IsChecked s.files merge before resolutions None

-- The limits serve: the tree and the text are within theirs, and either the text is held, or the log has room and nothing is held
-- under the text's id
pub record IsWithinLimits (f : List ℕ → List ℕ) (s : State) (h : List Revision) (l r : Id) (t : Tree) : Type 0 where
  pub limits : limit_refusal f h l r t ≡ None
  pub room : (text_under s.log (f (merge_text f h l r t)) ≡ Some (merge_text f h l r t)) ⊎ ((text_under s.log (f (merge_text f h l r t)) ≡ None) × (log_full h ≡ None))

-- the log ends with one more revision, whose tree is what was decided: one rooted tree with unique sibling names
pub record IsNewRevision (f : List ℕ → List ℕ) (h : List Revision) (decisions : Merge) (text : List ℕ) (o : Outcome) : Type 0 where
  pub status : o.status ≡ status.Ok
  pub output : o.output ≡ id_line (f text)
  pub revision : Revision
  pub history : IsHistory f o.state.files o.state.log (h ++ revision ∷ [])
  pub id : revision.id ≡ id_of (f text)
  pub tree : revision.tree ≡ result_of decisions (id_of (f text))
  pub sane : IsSane revision.tree

-- the text is held already, so that the state stays and its id is answered; or it is the text of a new revision
abbrev pub IsMergedBy : (List ℕ → List ℕ) → State → List Revision → Merge → List ℕ → Outcome → Type 0
IsMergedBy f s h decisions text o = (o ≡ done s (id_line (f text))) ⊎ IsNewRevision f h decisions text o
