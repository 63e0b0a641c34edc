-- The records that are kept of a new revision.
use Rattle.std.specs.Prelude.{◌≡◌, ◌≤◌, ◌+◌, ℕ, List, [], ◌∷◌, ◌++◌, length, nat_lt, MatchBool, ⊤, Some, None, slice_get, IsTrue}
use Rattle.mtn_ancestry.specs.Log.{list_of}
use Rattle.mtn_ancestry.specs.declared.pos.ParentList.{ParentList}
use Rattle.mtn_base.specs.Hex.{id_of}
use Rattle.mtn_base.specs.declared.id.Id.{Id}
use Rattle.mtn_base.specs.declared.limits.TheConstants.{MAX_TEXT}
use Rattle.mtn_changes.specs.declared.change.Edge.{Edge}
use Rattle.mtn_changes.specs.declared.change.Revision.{Revision as Spelled}
use Rattle.mtn_roster_deltas.specs.Chain.{Entries, ascend, deepest}
use Rattle.mtn_roster_deltas.specs.Difference.{IsDeltaTo}
use Rattle.mtn_roster_deltas.specs.Numbering.{fresh, AreKnown, IsNumbering}
use Rattle.mtn_history_laws.specs.History.{Revision}
use Rattle.mtn_history.specs.Revisions.{Kept, next_of}
use Rattle.mtn_history.specs.Rosters.{IsRebuilt}
use Rattle.mtn_replay.specs.Lawful.{Spells}
use Rattle.mtn_replay.specs.Making.{made, made_tree, parents_of, place_of, log_full, unknown_parent, refusal_of}
use Rattle.mtn_marking.specs.Graph.{IsMarkedAt}
use Rattle.mtn_marking.specs.Marking.{MarkedTree}
use Rattle.mtn_history.specs.Stands.{IsDraft}
use Rattle.mtn_history.specs.declared.pending.Pending.{Pending}
use Rattle.mtn_model.specs.State.{Logged, State}
use Rattle.mtn_model.specs.Table.{Table, Contents}
use Rattle.mtn_records.specs.Bounds.{IsLogAt, IsRosterAt}
use Rattle.mtn_records.specs.declared.record.RosterRecord.{RosterRecord}
use Rattle.mtn_records.specs.declared.record.RosterRecord.TheVariants.{Whole, Delta}
use Rattle.mtn_roster.specs.Tree.{Tree}
use Rattle.mtn_put_revision.specs.Finding.{made_refusal_of}
use Rattle.mtn_put_revision.specs.declared.keep.NewRecord.{NewRecord}
use Rattle.mtn_put_revision.specs.declared.over.NewRevision.{NewRevision}
use Rattle.mtn_put_revision.specs.declared.records.Written.{Written}

-- a record with all entries
abbrev pub IsWhole : RosterRecord → Type 0
IsWhole (Whole entries) = ⊤
IsWhole (Delta base depth gone changed) = ⊥

-- the body of a delta on these entries
pub record IsDeltaBody (below : Entries) (base depth : ℕ) (entries : Entries) (at : ℕ) (body : List ℕ) : Type 0 where
  pub roster : RosterRecord
  pub delta : IsTrue (ascend below) → IsTrue (ascend entries) → IsDeltaTo below base depth entries roster
  pub text : IsRosterAt at body roster

-- a delta on the first parent's entries, or whole where there is none or a chain would get too deep; and how deep it stands
abbrev pub IsRecordOn : List ℕ → List Entries → ℕ → Entries → ℕ → List ℕ → ℕ → Type 0
IsRecordOn (p ∷ ps) (below ∷ more) depth entries at body deep =
    MatchBool (nat_lt depth deepest) (IsDeltaBody below p (depth + 1) entries at body × (deep ≡ depth + 1)) (IsRosterAt at body (Whole entries) × (deep ≡ 0))
IsRecordOn _ _ depth entries at body deep = IsRosterAt at body (Whole entries) × (deep ≡ 0)

-- what was written of these entries
abbrev pub IsWrittenOn : List ℕ → List Entries → ℕ → Entries → ℕ → Written → Type 0
IsWrittenOn places known depth entries at w = IsRecordOn places known depth entries at w.body w.depth × (w.entries ≡ entries)

-- the body of the record of a roster with these entries, and the same roster
pub record IsNewRecord (places : List ℕ) (known : List Entries) (depth : ℕ) (numbered : Entries) (t : MarkedTree) (at : ℕ) (r : NewRecord) : Type 0 where
  pub on : IsRecordOn places known depth numbered at r.body r.rebuilt.depth
  pub entries : r.rebuilt.entries ≡ numbered
  pub roster : r.rebuilt.roster ≡ t

-- the first parent's entries are what its record gives, and so is its depth
abbrev pub IsFirstRebuilt : Contents → List ℕ → List Entries → ℕ → Type 0
IsFirstRebuilt c (p ∷ ps) (below ∷ more) depth = (t : MarkedTree) × IsRebuilt c p below t depth
IsFirstRebuilt c _ _ depth = ⊤

-- the entries of a tree under the numbers that are due behind those that are kept, and the least that is free then, where each known
-- node has one of its own
pub record IsNumberedOn (ks : List Kept) (known : List Entries) (t : MarkedTree) (entries : Entries) (free : ℕ) : Type 0 where
  pub numbers : AreKnown known (next_of ks) → IsNumbering known (next_of ks) t entries
  pub next : AreKnown known (next_of ks) → free ≡ next_of ks + length (fresh known t.tree)

-- the body of the log's record
pub record IsLogBodyOf (id : Id) (next : ℕ) (places : List ℕ) (at : ℕ) (body : List ℕ) : Type 0 where
  pub parents : ParentList
  pub same : list_of parents ≡ places
  pub text : IsLogAt at body (record { id = id; next_node = next; parents = parents })

-- what is kept of the revisions at these places
abbrev pub AreKeptAt : List Kept → List ℕ → List Entries → Type 0
AreKeptAt ks [] [] = Unit {0}
AreKeptAt ks (p ∷ ps) (es ∷ more) = ((k : Kept) × (slice_get ks p ≡ Some k) × (es ≡ k.entries)) × AreKeptAt ks ps more
AreKeptAt ks _ _ = ⊥

-- how deep the record of the first stands
abbrev pub IsFirstDepth : List Kept → List ℕ → ℕ → Type 0
IsFirstDepth ks [] depth = Unit {0}
IsFirstDepth ks (p ∷ ps) depth = (k : Kept) × (slice_get ks p ≡ Some k) × (depth ≡ k.depth)

-- the parents of a new revision, as they are kept
pub record AreParents (h : List Revision) (ks : List Kept) (edges : List Edge) (places : List ℕ) (known : List Entries) (depth : ℕ) : Type 0 where
  pub stand : places ≡ parents_of h edges
  pub kept : AreKeptAt ks places known
  pub deep : IsFirstDepth ks places depth

-- the tree of a new revision with its marks
pub record IsMade (h : List Revision) (edges : List Edge) (new : Id) (t : MarkedTree) : Type 0 where
  pub tree : t.tree ≡ made_tree h new edges
  pub marked : IsMarkedAt (h ++ made h new edges ∷ []) (length h) t

-- the state with one more text
abbrev pub with_text : State → Logged → State
with_text s l = record s { log = s.log ++ l ∷ [] }

-- the id is new to the history, and its parents stand at these places
pub record AreOn (h : List Revision) (fresh : NewRevision) (places : List ℕ) : Type 0 where
  pub new : place_of h fresh.id ≡ None
  pub known : unknown_parent h fresh.read.now.edges ≡ None
  pub stand : places ≡ parents_of h fresh.read.now.edges

-- a text within its limit, whose id is the ident's, that spells the revision; the log has room for it, and holds its parents
pub record IsNew (f : List ℕ → List ℕ) (h : List Revision) (fresh : NewRevision) : Type 0 where
  pub short : length fresh.text.now ≤ MAX_TEXT
  pub id : f fresh.text.now ≡ fresh.id.0
  pub spells : Spells fresh.text.now fresh.read.now
  pub new : place_of h fresh.id ≡ None
  pub room : log_full h ≡ None
  pub known : unknown_parent h fresh.read.now.edges ≡ None

-- nothing is refused, and the draft stands for the state with the text
pub record Accepts (f : List ℕ → List ℕ) (c : Contents) (s : State) (h : List Revision) (fresh : NewRevision) (p : Pending) : Type 0 where
  pub fine : made_refusal_of f s.files h fresh.id fresh.read.now ≡ None
  pub draft : IsDraft f c p (with_text s (record { id = fresh.id.0; text = fresh.text.now }))

-- the text within its limit, the ident's id of it, and the revision that it spells
pub record IsSpelled (f : List ℕ → List ℕ) (fresh : NewRevision) : Type 0 where
  pub short : length fresh.text.now ≤ MAX_TEXT
  pub id : f fresh.text.now ≡ fresh.id.0
  pub spells : Spells fresh.text.now fresh.read.now

-- nothing is refused of a new text, and the draft stands for the state with it
pub record AcceptsNew (f : List ℕ → List ℕ) (c : Contents) (s : State) (h : List Revision) (fresh : NewRevision) (p : Pending) : Type 0 where
  pub fine : refusal_of f s.files h fresh.id fresh.read.now ≡ None
  pub draft : IsDraft f c p (with_text s (record { id = fresh.id.0; text = fresh.text.now }))

-- The tree that a text makes, known beforehand: whatever revision the text spells, where its id is new and the log has room
-- nothing of it is refused, and this is its tree
abbrev pub IsPlanned : (List ℕ → List ℕ) → Table → List Revision → List ℕ → Tree → Type 0
IsPlanned f files h text t = (r : Spelled) → Spells text r → place_of h (id_of (f text)) ≡ None → log_full h ≡ None →
    (refusal_of f files h (id_of (f text)) r ≡ None) × (made_tree h (id_of (f text)) r.edges ≡ t)
