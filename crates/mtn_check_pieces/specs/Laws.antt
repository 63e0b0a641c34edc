-- A job over a history, and what its verdict says there.
use Rattle.std.specs.Prelude.{◌≡◌, ℕ, List, [], ◌∷◌, ◌++◌, length, None}
use Rattle.mtn_base.specs.declared.id.Id.{Id}
use Rattle.mtn_changes.specs.declared.change.Edge.{Edge}
use Rattle.mtn_history_laws.specs.History.{Revision, IsGrown}
use Rattle.mtn_make_roster.specs.Basis.{IsParentAt, AreTwoParents, edges_refusal}
use Rattle.mtn_marking.specs.Graph.{IsMarkedAt}
use Rattle.mtn_marking.specs.Marking.{MarkedTree}
use Rattle.mtn_replay.specs.Making.{place_of, made, made_tree}
use Rattle.mtn_check_pieces.specs.declared.job.CheckJob.{CheckJob}

-- the parents that the edges name are these, each with its marks in the history; and of two what each has above it that the
-- other lacks
abbrev pub AreParentsOn : List Revision → CheckJob → List Edge → List MarkedTree → Type 0
AreParentsOn h job (e ∷ []) [] = e.parent ≡ None
AreParentsOn h job (e ∷ []) (p ∷ []) = (n : ℕ) × IsParentAt h e n p
AreParentsOn h job (e ∷ f ∷ []) (p ∷ q ∷ []) = AreTwoParents h e f p q job.only_left job.only_right
AreParentsOn h job _ _ = ⊥

-- the job is of the next revision of a grown history
pub record StandsOn (h : List Revision) (job : CheckJob) (edges : List Edge) (parents : List MarkedTree) : Type 0 where
  pub grown : IsGrown h
  pub fresh : place_of h job.id ≡ None
  pub here : job.at ≡ length h
  pub parents_are : AreParentsOn h job edges parents

-- the edges make this tree over the history, and it has the marks and births of the history with the new revision
pub record IsNextMarked (h : List Revision) (new : Id) (edges : List Edge) (t : MarkedTree) : Type 0 where
  pub fine : edges_refusal h new edges ≡ None
  pub tree : t.tree ≡ made_tree h new edges
  pub grows : IsGrown (h ++ made h new edges ∷ [])
  pub marked : IsMarkedAt (h ++ made h new edges ∷ []) (length h) t
