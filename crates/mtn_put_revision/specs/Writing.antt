-- When the record of a tree can be written.
use Rattle.std.specs.Prelude.{◌≡◌, ◌<◌, ◌≤◌, ℕ, None, List, [], ◌∷◌, ◌++◌, length, All, Contains, IsTrue}
use Rattle.std.specs.List.Sorted.{IsStrictlyIncreasing}
use Rattle.mtn_base.specs.declared.id.Id.{Id}
use Rattle.mtn_base.specs.declared.limits.TheConstants.{MAX_LOG, MAX_NODES}
use Rattle.mtn_changes.specs.declared.change.Edge.{Edge}
use Rattle.mtn_entry_laws.specs.Entries.{HasLawfulEntries, HaveLawfulEntries}
use Rattle.mtn_history_laws.specs.History.{Revision, IsGrown}
use Rattle.mtn_make_roster.specs.Basis.{Underlies, made_refusal}
use Rattle.mtn_make_roster.specs.declared.basis.Basis.{Basis}
use Rattle.mtn_marking.specs.Graph.{IsMarkedAt}
use Rattle.mtn_marking.specs.Marking.{MarkedTree}
use Rattle.mtn_records.specs.Fields.{IsNumber, IsTwenty}
use Rattle.mtn_records.specs.Records.{IsByte}
use Rattle.mtn_records.specs.declared.entry.NumberedAttr.{NumberedAttr}
use Rattle.mtn_records.specs.declared.entry.NumberedBody.{NumberedBody}
use Rattle.mtn_records.specs.declared.entry.NumberedBody.TheVariants.{Dir, File}
use Rattle.mtn_records.specs.declared.entry.NumberedEntry.{NumberedEntry}
use Rattle.mtn_records.specs.declared.record.RosterRecord.{RosterRecord}
use Rattle.mtn_records.specs.declared.record.RosterRecord.TheVariants.{Whole, Delta}
use Rattle.mtn_replay.specs.Making.{made_tree}
use Rattle.mtn_roster.specs.Tree.{Tree}
use Rattle.mtn_roster_deltas.specs.Chain.{Entries, ascend}
use Rattle.mtn_roster_deltas.specs.Spelled.{Spells}

-- What the types of a record's values say of them: sets ascend, ids have twenty bytes, numbers fit
abbrev pub IsTypedAttr : NumberedAttr → Type 0
IsTypedAttr a = IsStrictlyIncreasing a.marks

abbrev pub IsTypedBody : NumberedBody → Type 0
IsTypedBody Dir = Unit {0}
IsTypedBody (File content marks) = IsTwenty content × IsStrictlyIncreasing marks

pub record IsTypedEntry (e : NumberedEntry) : Type 0 where
  pub number : IsNumber e.number
  pub birth : IsTwenty e.node.birth
  pub parent : IsNumber e.parent
  pub slot : IsStrictlyIncreasing e.slot_marks
  pub body : IsTypedBody e.body
  pub many : IsNumber (length e.attrs)
  pub attrs : All IsTypedAttr e.attrs

abbrev pub AreTyped : Entries → Type 0
AreTyped es = IsNumber (length es) × All IsTypedEntry es

abbrev pub AreTypedNumbers : List ℕ → Type 0
AreTypedNumbers ns = IsNumber (length ns) × All IsNumber ns

abbrev pub IsTyped : RosterRecord → Type 0
IsTyped (Whole entries) = AreTyped entries
IsTyped (Delta base depth gone changed) = IsByte depth × AreTypedNumbers gone × AreTyped changed

-- A marked tree that the history may have as that of its next revision: few nodes, lawful entries, the marks of the whole history
pub record IsNextTree (h : List Revision) (v : Revision) (t : MarkedTree) : Type 0 where
  pub grown : IsGrown (h ++ v ∷ [])
  pub marked : IsMarkedAt (h ++ v ∷ []) (length h) t
  pub few : length t.tree ≤ MAX_NODES
  pub entries : HasLawfulEntries t.tree

-- no tree that a history may have next, at this position, has these entries
abbrev pub NoneHas : ℕ → Entries → Type 0
NoneHas at entries = (h : List Revision) (v : Revision) (t : MarkedTree) → IsNextTree h v t → Spells entries t → length h ≡ at → at < MAX_LOG → ⊥

-- over no history of this length, with lawful entries, do the edges make this tree
abbrev pub NoneMakes : ℕ → Id → List Edge → Basis → Tree → Type 0
NoneMakes count new edges basis t = (h : List Revision) → HaveLawfulEntries h → Underlies h edges basis new → made_refusal h new edges ≡ None → t ≡ made_tree h new edges → length h ≡ count → ⊥

-- each of them by ascending numbers
abbrev pub AllAscend : List Entries → Type 0
AllAscend known = (es : Entries) → Contains known es → IsTrue (ascend es)
