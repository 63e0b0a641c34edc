-- What the steps of numbering hand on: the numbers of nodes by their places, where 0 is none yet.
use Rattle.std.specs.Prelude.{◌≡◌, ℕ, zero, suc, ◌+◌, ◌<◌, List, [], map, length, slice_get, slice_index, Option, Some, None, Contains}
use Rattle.mtn_base.specs.Comps.{IsComp}
use Rattle.mtn_base.specs.declared.name.NodeName.{NodeName}
use Rattle.mtn_marking.specs.Marking.{MarkedTree}
use Rattle.mtn_marking.specs.declared.node.NodeMarks.{NodeMarks}
use Rattle.mtn_records.specs.declared.entry.NumberedEntry.{NumberedEntry}
use Rattle.mtn_roster.specs.declared.entry.Entry.{Entry}
use Rattle.mtn_roster.specs.declared.entry.Slot.{Slot}
use Rattle.mtn_roster.specs.declared.entry.Slot.TheVariants.{Root, Below}
use Rattle.mtn_roster.specs.Tree.{Tree}
use Rattle.mtn_roster_deltas.specs.Chain.{Entries}
use Rattle.mtn_roster_deltas.specs.Numbering.{number_among, unnumbered, number_by, number_in}
use Rattle.mtn_roster_deltas.specs.Spelled.{attr_of, body_of, marks_of}

abbrev pub positive : ℕ → Option ℕ
positive zero = None
positive (suc n) = Some (suc n)

-- entries of one node have one number, and it is above 0
pub record AreOne (es : Entries) : Type 0 where
  pub number : (e f : NumberedEntry) → Contains es e → Contains es f → e.node ≡ f.node → e.number ≡ f.number
  pub above : (e : NumberedEntry) → Contains es e → 0 < e.number

-- each node has the number that it has among the entries
pub record AreNoted (es : Entries) (names : List NodeName) (ns : List ℕ) : Type 0 where
  pub each : (k : ℕ) (n : NodeName) → slice_get names k ≡ Some n → number_among es n ≡ positive (slice_index ns k)

-- each node has that number, or the next by its place among those that were met
pub record AreFilled (es : Entries) (first : ℕ) (names met : List NodeName) (ns : List ℕ) (next : ℕ) : Type 0 where
  pub next_is : next ≡ first + length (unnumbered es met)
  pub each : (k : ℕ) (n : NodeName) → slice_get names k ≡ Some n → number_by first es (unnumbered es met) n ≡ positive (slice_index ns k)

-- each node of the tree has its number
pub record HaveNumbers (known : List Entries) (next : ℕ) (t : Tree) (ns : List ℕ) : Type 0 where
  pub long : length ns ≡ length t
  pub each : (k : ℕ) (e : Entry) → slice_get t k ≡ Some e → number_in known next t e.name ≡ Some (slice_index ns k)

-- the parent's number and the name that tell a slot
abbrev pub IsNumberedSlot : Tree → List ℕ → Slot → ℕ → List ℕ → Type 0
IsNumberedSlot t ns Root parent name = (parent ≡ 0) × (name ≡ [])
IsNumberedSlot t ns (Below above comp) parent name =
    ((k : ℕ) (e : Entry) → slice_get t k ≡ Some e → e.name ≡ above → parent ≡ slice_index ns k) × (name ≡ comp) × IsComp comp

-- the entry, under this number, of what a tree and its marks have of a node
pub record IsNumberedOf (t : Tree) (ns : List ℕ) (number : ℕ) (n : Entry) (m : NodeMarks) (e : NumberedEntry) : Type 0 where
  pub number_is : e.number ≡ number
  pub name : n.name ≡ e.node
  pub slot : IsNumberedSlot t ns n.slot e.parent e.name
  pub body : n.body ≡ body_of e.body
  pub attrs : n.attrs ≡ map attr_of e.attrs
  pub marks : m ≡ marks_of e

-- the entries of the first nodes of a marked tree, by ascending nodes
pub record AreNumbered (t : MarkedTree) (ns : List ℕ) (es : Entries) : Type 0 where
  pub each : (k : ℕ) (n : Entry) (m : NodeMarks) (e : NumberedEntry) → slice_get t.tree k ≡ Some n → slice_get t.marks k ≡ Some m → slice_get es k ≡ Some e →
      IsNumberedOf t.tree ns (slice_index ns k) n m e
