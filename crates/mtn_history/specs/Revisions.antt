-- Tables 3, 4 and 5: the texts of revisions, the log, and their rosters. The layout is our choice.
use Rattle.std.specs.Prelude.{◌≡◌, ℕ, ◌+◌, ◌<◌, List, [], ◌∷◌, ◌++◌, length, map, take, nat_lt, if◌then◌else◌, Some, slice_get}
use Rattle.std.specs.Option.{option_map_or}
use Rattle.std.specs.FinMap.{get}
use Rattle.mtn_ancestry.specs.Log.{list_of}
use Rattle.mtn_ancestry.specs.declared.pos.ParentList.{ParentList}
use Rattle.mtn_roster_deltas.specs.Chain.{Entries, deepest}
use Rattle.mtn_roster_deltas.specs.Difference.{IsDifference}
use Rattle.mtn_roster_deltas.specs.Numbering.{fresh, IsNumbering}
use Rattle.mtn_history_laws.specs.History.{Revision}
use Rattle.mtn_marking.specs.Graph.{IsMarkedAt}
use Rattle.mtn_marking.specs.Marking.{Marks}
use Rattle.mtn_model.specs.State.{Logged}
use Rattle.mtn_model.specs.Table.{Table}
use Rattle.mtn_records.specs.Fields.{number_text}
use Rattle.mtn_records.specs.Bounds.{IsLogAt, IsRosterAt}
use Rattle.mtn_records.specs.declared.record.RosterRecord.{RosterRecord}
use Rattle.mtn_records.specs.declared.record.RosterRecord.TheVariants.{Whole, Delta}

-- What is kept of a revision beside its text: the entries of its roster under their numbers, the least number that no
-- node has yet, and how many deltas its roster's record stands above a whole one
pub record Kept : Type 0 where
  pub entries : Entries
  pub next : ℕ
  pub depth : ℕ

-- the least number that no node of these revisions has; numbers are from 1
abbrev pub next_from : ℕ → List Kept → ℕ
next_from n [] = n
next_from n (k ∷ ks) = next_from k.next ks

abbrev pub next_of : List Kept → ℕ
next_of ks = next_from 1 ks

abbrev pub all_entries : List Kept → List Entries
all_entries ks = map (λ (k : Kept). k.entries) ks

-- one delta more, or a whole record where a chain may not get deeper
abbrev pub deeper : ℕ → ℕ
deeper depth = if nat_lt depth deepest then depth + 1 else 0

-- a roster stands on that of its first edge's parent; without a parent its record is whole
abbrev pub depth_on : List Kept → List ℕ → ℕ
depth_on ks [] = 0
depth_on ks (p ∷ ps) = option_map_or (λ (k : Kept). deeper k.depth) (slice_get ks p) 0

-- What is kept of the revision at r: its tree and the marks that the whole history gives it, under numbers that nodes of
-- earlier revisions keep and new ones get as the walk meets them
pub record IsKept (h : List Revision) (ks : List Kept) (r : ℕ) (v : Revision) (new : Kept) : Type 0 where
  pub marks : Marks
  pub marked : IsMarkedAt h r (record { tree = v.tree; marks = marks })
  pub numbered : IsNumbering (all_entries (take r ks)) (next_of (take r ks)) (record { tree = v.tree; marks = marks }) new.entries
  pub next : new.next ≡ next_of (take r ks) + length (fresh (all_entries (take r ks)) v.tree)
  pub depth : new.depth ≡ depth_on ks v.parents

-- of each revision
pub record AreKept (h : List Revision) (ks : List Kept) : Type 0 where
  pub long : length ks ≡ length h
  pub each : (r : ℕ) (v : Revision) (k : Kept) → slice_get h r ≡ Some v → slice_get ks r ≡ Some k → IsKept h ks r v k

-- table 3: under each id of the log its position, in eight bytes, and its text
pub record AreTexts (log : List Logged) (t : Table) : Type 0 where
  pub each : (r : ℕ) (l : Logged) → slice_get log r ≡ Some l → get t l.id ≡ Some (number_text r ++ l.text)
  pub only : (id body : List ℕ) → get t id ≡ Some body → (r : ℕ) × (l : Logged) × (slice_get log r ≡ Some l) × (l.id ≡ id)

-- each key of the table is a position below n, in eight bytes
abbrev pub OnlyBelow : ℕ → Table → Type 0
OnlyBelow n t = (key body : List ℕ) → get t key ≡ Some body → (r : ℕ) × (r < n) × (key ≡ number_text r)

-- the record of the log at r: the revision's id, the next number, and its parents in the order of its edges
pub record IsLogBody (r : ℕ) (v : Revision) (k : Kept) (body : List ℕ) : Type 0 where
  pub parents : ParentList
  pub same : list_of parents ≡ v.parents
  pub text : IsLogAt r body (record { id = v.id; next_node = k.next; parents = parents })

-- table 4: under each position that record
pub record AreLogged (h : List Revision) (ks : List Kept) (t : Table) : Type 0 where
  pub each : (r : ℕ) (v : Revision) (k : Kept) → slice_get h r ≡ Some v → slice_get ks r ≡ Some k → (body : List ℕ) × (get t (number_text r) ≡ Some body) × IsLogBody r v k body
  pub only : OnlyBelow (length h) t

-- the record of a roster: whole where nothing is below it, and else what differs from the first parent's
abbrev pub IsRosterOf : List Kept → List ℕ → Kept → RosterRecord → Type 0
IsRosterOf ks parents k (Whole entries) = (k.depth ≡ 0) × (entries ≡ k.entries)
IsRosterOf ks [] k (Delta base depth gone changed) = ⊥
IsRosterOf ks (p ∷ ps) k (Delta base depth gone changed) =
    (base ≡ p) × (depth ≡ k.depth) × (0 < depth) × ((below : Kept) × (slice_get ks p ≡ Some below) × IsDifference below.entries k.entries gone changed)

pub record IsRosterBody (ks : List Kept) (r : ℕ) (v : Revision) (k : Kept) (body : List ℕ) : Type 0 where
  pub roster : RosterRecord
  pub is : IsRosterOf ks v.parents k roster
  pub text : IsRosterAt r body roster

-- table 5: under each position that record
pub record AreRosters (h : List Revision) (ks : List Kept) (t : Table) : Type 0 where
  pub each : (r : ℕ) (v : Revision) (k : Kept) → slice_get h r ≡ Some v → slice_get ks r ≡ Some k → (body : List ℕ) × (get t (number_text r) ≡ Some body) × IsRosterBody ks r v k body
  pub only : OnlyBelow (length h) t
