-- The order in which changes are written, and the texts in that order.
use Rattle.std.specs.Prelude.{◌≡◌, ℕ, List, [], ◌∷◌, ◌++◌, map, All}
use Rattle.std.specs.List.{flat_map}
use Rattle.std.specs.List.Sorted.{IsPermutation, IsSorted}
use Rattle.std.specs.declared.cmp.Ordering.{Ordering}
use Rattle.mtn_basic_io.specs.Spelling.{LineText, AreStanzas, spelling}
use Rattle.mtn_changes.specs.declared.change.Change.{Change}
use Rattle.mtn_changes.specs.declared.change.Edge.{Edge}
use Rattle.mtn_changes.specs.declared.change.Revision.{Revision}
use Rattle.mtn_changes.specs.declared.target.Target.{Target}
use Rattle.mtn_changes.specs.Changes.{IsChange, rank}
use Rattle.mtn_changes.specs.Targets.{target_of, target_cmp, AreApart}
use Rattle.mtn_changes.specs.Stanzas.{stanza_of}
use Rattle.mtn_changes.specs.RevisionText.{Ascend, AreEdges, edge_stanzas, revision_stanzas}
use Rattle.mtn_changes.specs.ChangesText.{AreChanges}

-- where a change stands: its rank, its path, its key
abbrev pub place_of : Change → Target
place_of c = record { kind = rank c; path = (target_of c).path; key = (target_of c).key }

-- by rank, then by path component by component, then by key byte by byte
abbrev pub place_cmp : Change → Change → Ordering
place_cmp c d = target_cmp (place_of c) (place_of d)

-- the same changes in that order
pub record IsSortedAs (changes sorted : List Change) : Type 0 where
  pub same : IsPermutation changes sorted
  pub ordered : IsSorted place_cmp sorted

-- the same edges, each with its changes in that order
abbrev pub AreSortedAs : List Edge → List Edge → Type 0
AreSortedAs [] [] = Unit {0}
AreSortedAs (e ∷ es) (f ∷ fs) = (f.parent ≡ e.parent) × IsSortedAs e.changes f.changes × AreSortedAs es fs
AreSortedAs _ _ = ⊥

-- lawful apart from order: no two change the same thing
pub record AreUnsorted (changes : List Change) : Type 0 where
  pub each : All IsChange changes
  pub apart : AreApart changes

-- one edge, or two whose parents ascend, lawful apart from the order of changes
abbrev pub AreUnsortedEdges : List Edge → Type 0
AreUnsortedEdges [] = ⊥
AreUnsortedEdges (e ∷ []) = AreUnsorted e.changes
AreUnsortedEdges (e ∷ f ∷ []) = AreUnsorted e.changes × AreUnsorted f.changes × Ascend e.parent f.parent
AreUnsortedEdges (e ∷ f ∷ g ∷ more) = ⊥

-- behind what stood there, the text of the changes in that order; the ids of values in memory are twenty bytes, so
-- their stanzas are stanzas
pub record WritesChanges (before : List ℕ) (changes : List Change) (after : List ℕ) : Type 0 where
  pub sorted : List Change
  pub lawful : AreChanges sorted
  pub is : IsSortedAs changes sorted
  pub stanzas : AreStanzas (map stanza_of sorted)
  pub spelled : after ≡ before ++ spelling (map stanza_of sorted)

-- the same of a revision
pub record WritesRevision (before : List ℕ) (r : Revision) (after : List ℕ) : Type 0 where
  pub sorted : List Edge
  pub lawful : AreEdges sorted
  pub are : AreSortedAs r.edges sorted
  pub stanzas : AreStanzas (revision_stanzas (record { manifest = r.manifest; edges = sorted }))
  pub spelled : after ≡ before ++ spelling (revision_stanzas (record { manifest = r.manifest; edges = sorted }))

-- behind other stanzas, those of an edge in that order
pub record EdgeWritten (before : List (List LineText)) (e : Edge) (after : List (List LineText)) : Type 0 where
  pub sorted : List Change
  pub is : IsSortedAs e.changes sorted
  pub spelled : after ≡ before ++ edge_stanzas (record { parent = e.parent; changes = sorted })

-- the same of edges
pub record EdgesWritten (before : List (List LineText)) (edges : List Edge) (after : List (List LineText)) : Type 0 where
  pub sorted : List Edge
  pub are : AreSortedAs edges sorted
  pub spelled : after ≡ before ++ flat_map edge_stanzas sorted
