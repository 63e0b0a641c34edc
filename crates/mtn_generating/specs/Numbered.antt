-- The numbered definitions for values in memory.
use Rattle.std.specs.Prelude.{◌≡◌, ℕ, List, [], ◌∷◌, Option, Some, None, Result, Ok, Err, ⊤}
use Rattle.mtn_apply.specs.declared.applying.ApplyError.{ApplyError}
use Rattle.mtn_apply.specs.declared.applying.ApplyError.TheVariants as apply
use Rattle.mtn_base.specs.Hex.{id_of}
use Rattle.mtn_base.specs.declared.id.Id.{Id}
use Rattle.mtn_base.specs.declared.refusal.Cause.{Cause}
use Rattle.mtn_base.specs.declared.refusal.Cause.TheVariants.{BadChange}
use Rattle.mtn_base.specs.declared.refusal.Why.{Why}
use Rattle.mtn_basic_io.specs.Spelling.{spelling}
use Rattle.mtn_changes.specs.RevisionText.{revision_stanzas}
use Rattle.mtn_changes.specs.declared.change.Change.{Change}
use Rattle.mtn_changes.specs.declared.change.Change.TheVariants.{AddDir, AddFile}
use Rattle.mtn_changes.specs.declared.change.Edge.{Edge}
use Rattle.mtn_changeset_laws.specs.Laws.{RenamesDiffer}
use Rattle.mtn_generated.specs.Numbered.{Tips as GeneratedTips, Work as GeneratedWork}
use Rattle.mtn_generated.specs.Numbered.Work.{Begins as GeneratedBegins, Patches as GeneratedPatches, Sets as GeneratedSets, Joins as GeneratedJoins, Renames as GeneratedRenames}
use Rattle.mtn_manifest.specs.Manifest.{manifest_of}
use Rattle.mtn_roster.specs.Tree.{Tree}
use Rattle.mtn_generating.specs.declared.work.Tips.{Tips}
use Rattle.mtn_generating.specs.declared.work.Work.{Work}
use Rattle.mtn_generating.specs.declared.work.Work.TheVariants.{Begins, Patches, Sets, Joins, Renames}

abbrev pub work_of : Work → GeneratedWork
work_of Begins = GeneratedBegins
work_of Patches = GeneratedPatches
work_of Sets = GeneratedSets
work_of Joins = GeneratedJoins
work_of Renames = GeneratedRenames

abbrev pub tips_of : Tips → GeneratedTips
tips_of tips = record { left = tips.left; right = tips.right; last = tips.last }

-- a change that adds no node
abbrev pub AddsNothing : Change → Type 0
AddsNothing (AddDir path) = ⊥
AddsNothing (AddFile path content) = ⊥
AddsNothing _ = ⊤

-- one change, that adds no node
abbrev pub IsOneKept : List Change → Type 0
IsOneKept (change ∷ []) = AddsNothing change
IsOneKept _ = ⊥

-- the changes of a revision for whose tree this crate asks: they begin a tree, or are one change that adds no node
abbrev pub Fits : Option Id → List Change → Type 0
Fits None changes = RenamesDiffer changes
Fits (Some parent) changes = IsOneKept changes

abbrev pub IsFit : Edge → Type 0
IsFit e = Fits e.parent e.changes

-- what was applied, with its fault as the cause of a refusal
abbrev pub IsMade : Result Tree ApplyError → Result Tree Cause → Type 0
IsMade applied (Ok t) = applied ≡ Ok t
IsMade applied (Err cause) = (number : ℕ) × (why : Why) × (applied ≡ Err (apply.BadChange number why)) × (cause ≡ BadChange 1 number why)

-- this tree, where there is no fault, and else the fault
abbrev pub Makes : Option Cause → Tree → Result Tree Cause → Type 0
Makes fault tree (Ok t) = (fault ≡ None) × (t ≡ tree)
Makes fault tree (Err cause) = fault ≡ Some cause

-- the text of a revision that has this edge alone, and names the manifest of this tree
abbrev pub text_over : (List ℕ → List ℕ) → Tree → Edge → List ℕ
text_over f t e = spelling (revision_stanzas (record { manifest = id_of (f (spelling (manifest_of t))); edges = e ∷ [] }))
