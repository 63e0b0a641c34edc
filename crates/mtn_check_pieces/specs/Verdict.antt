-- Whether a revision's stored roster is the one that its text makes of its parents' ones: the trees by Monotone's rules for
-- changesets and for revisions with two edges, the marks by its rule of marks. The form of a job is our choice.
use Rattle.std.specs.Prelude.{◌≡◌, ℕ, List, [], ◌∷◌, Option, Some, None, IsSome}
use Rattle.std.specs.List.{AllZip}
use Rattle.mtn_base.specs.declared.id.Id.{Id}
use Rattle.mtn_basic_io.specs.Spelling.{AreStanzas}
use Rattle.mtn_changes.specs.declared.change.Edge.{Edge}
use Rattle.mtn_changes.specs.declared.change.Revision.{Revision}
use Rattle.mtn_changes.specs.RevisionText.{IsRevisionText, revision_stanzas}
use Rattle.mtn_changeset_laws.specs.Changes.{first_fault, tree_after}
use Rattle.mtn_changeset_laws.specs.Joining.{join_fault, joined}
use Rattle.mtn_changeset_laws.specs.Laws.{NoneBornIn, CommonAreKnown}
use Rattle.mtn_join.specs.Join.{is_outside}
use Rattle.mtn_marking.specs.Marking.{MarkedTree, Basis, AreAllByRule, HaveBirths, on_none, on_one, on_two}
use Rattle.mtn_records.specs.declared.record.RosterRecord.{RosterRecord}
use Rattle.mtn_records.specs.declared.record.RosterRecord.TheVariants.{Whole, Delta}
use Rattle.mtn_roster.specs.Tree.{Tree}
use Rattle.mtn_roster_deltas.specs.Spelled.{Spells}
use Rattle.mtn_check_pieces.specs.declared.job.CheckJob.{CheckJob}
use Rattle.mtn_check_pieces.specs.declared.job.Verdict.{Verdict}
use Rattle.mtn_check_pieces.specs.declared.job.Verdict.TheVariants.{Agrees, Differs}

-- the answer is such a value, or there is none
abbrev pub IsOneOf : {A : Type 0} (P : A → Type 0) → Option A → Type 0
IsOneOf P None = (x : _) → P x → ⊥
IsOneOf P (Some x) = P x

-- the text spells the revision, whose ids are twenty bytes each
pub record IsRevisionOf (text : List ℕ) (r : Revision) : Type 0 where
  pub spelled : IsRevisionText text r
  pub ids : AreStanzas (revision_stanzas r)

-- the record is whole, and its entries spell this tree with these marks
abbrev pub IsWholeOf : RosterRecord → MarkedTree → Type 0
IsWholeOf (Whole entries) t = Spells entries t
IsWholeOf (Delta base depth gone changed) t = ⊥

-- the record is whole, and its entries spell this tree with these marks
abbrev pub IsStoredOn : RosterRecord → Tree → MarkedTree → Type 0
IsStoredOn stored tree t = IsWholeOf stored t × (t.tree ≡ tree)

-- what is asked for is taken where it holds
abbrev pub IsTaken : {A : Type 0} → Type 0 → A → Option A → Type 0
IsTaken P x None = P → ⊥
IsTaken P x (Some y) = P × (y ≡ x)

-- the tree of an edge: no node of the old tree is born in the new revision, and no change fails
pub record IsEdgeTree (new : Id) (old : Tree) (e : Edge) (t : Tree) : Type 0 where
  pub unborn : NoneBornIn old new
  pub fine : first_fault old e.changes ≡ None
  pub made : t ≡ tree_after old e.changes new

-- the joining of the trees of two edges: old nodes of both are born in what both parents have above them, and no path has a fault
pub record IsJoining (job : CheckJob) (left right t : Tree) : Type 0 where
  pub known : CommonAreKnown left right job.id (is_outside job.only_right.ids) (is_outside job.only_left.ids)
  pub agreed : join_fault job.id (is_outside job.only_right.ids) (is_outside job.only_left.ids) left right ≡ None
  pub made : t ≡ joined left right job.id

-- the tree of a revision without parents
pub record IsRootTree (job : CheckJob) (e : Edge) (t : Tree) : Type 0 where
  pub parentless : e.parent ≡ None
  pub tree : IsEdgeTree job.id [] e t

-- the tree of a revision with one parent
pub record IsChildTree (job : CheckJob) (parent : Tree) (e : Edge) (t : Tree) : Type 0 where
  pub child : IsSome e.parent
  pub tree : IsEdgeTree job.id parent e t

-- the tree of a revision with two
pub record IsMergedTree (job : CheckJob) (left right : Tree) (e f : Edge) (t : Tree) : Type 0 where
  pub first : Tree
  pub second : Tree
  pub first_is : IsEdgeTree job.id left e first
  pub second_is : IsEdgeTree job.id right f second
  pub joined_are : IsJoining job first second t

-- the edges make this tree of the parents' ones, which are as many as parents are named
abbrev pub IsTreeOf : CheckJob → List MarkedTree → List Edge → Tree → Type 0
IsTreeOf job [] (e ∷ []) t = IsRootTree job e t
IsTreeOf job (p ∷ []) (e ∷ []) t = IsChildTree job p.tree e t
IsTreeOf job (p ∷ q ∷ []) (e ∷ f ∷ []) t = IsMergedTree job p.tree q.tree e f t
IsTreeOf job _ _ t = ⊥

-- what the revision is marked on
abbrev pub basis_on : CheckJob → List MarkedTree → Basis
basis_on job [] = on_none job.at
basis_on job (p ∷ []) = on_one job.at p
basis_on job (p ∷ q ∷ more) = on_two job.at p q job.only_left.positions job.only_right.positions

-- a tree has the marks of the rule, and its nodes their births
pub record IsMarkedOn (b : Basis) (t : MarkedTree) : Type 0 where
  pub rule : AreAllByRule b t.tree t.marks
  pub births : HaveBirths b t.tree t.marks

-- the stored tree is the one that the edges make of these parents, with its marks and births
pub record IsMadeOf (job : CheckJob) (edges : List Edge) (stored : MarkedTree) (parents : List MarkedTree) : Type 0 where
  pub tree : IsTreeOf job parents edges stored.tree
  pub marked : IsMarkedOn (basis_on job parents) stored

-- the same, of the parents that these records spell
pub record IsMadeWith (job : CheckJob) (edges : List Edge) (stored : MarkedTree) (records : List RosterRecord) : Type 0 where
  pub parents : List MarkedTree
  pub spelled : AllZip IsWholeOf records parents
  pub made : IsMadeOf job edges stored parents

-- the stored roster is that
abbrev pub IsStoredOf : CheckJob → List Edge → List MarkedTree → MarkedTree → Type 0
IsStoredOf job edges parents t = IsWholeOf job.stored t × IsMadeOf job edges t parents

-- the same, of the parents that these records spell
abbrev pub IsStoredWith : CheckJob → List Edge → List RosterRecord → MarkedTree → Type 0
IsStoredWith job edges records t = IsWholeOf job.stored t × IsMadeWith job edges t records

-- The stored roster, its marks and births are those that the job's text and its parents' rosters give
pub record IsAgreeing (job : CheckJob) : Type 0 where
  pub revision : Revision
  pub read : IsRevisionOf job.text revision
  pub stored : MarkedTree
  pub spelled : IsWholeOf job.stored stored
  pub made : IsMadeWith job revision.edges stored job.parents

-- the answer tells whether it is so
abbrev pub IsAnswer : Type 0 → Verdict → Type 0
IsAnswer P Agrees = P
IsAnswer P Differs = P → ⊥

-- The verdict on a job
abbrev pub IsVerdict : CheckJob → Verdict → Type 0
IsVerdict job v = IsAnswer (IsAgreeing job) v

-- One verdict per job, in their order
abbrev pub AreVerdicts : List CheckJob → List Verdict → Type 0
AreVerdicts = AllZip IsVerdict
