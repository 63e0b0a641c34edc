-- Rosters: what is read of table 5, and what is damage.
use Rattle.std.specs.Prelude.{◌≡◌, ◌<◌, ◌≤◌, ◌+◌, ◌⊎◌, length, max, ℕ, true, List, [], ◌∷◌, reverse, Option, Some, None, IsSome, slice_get}
use Rattle.mtn_roster_deltas.specs.Chain.{Entries, ascend, rebuilt}
use Rattle.mtn_roster_deltas.specs.Spelled.{Spells}
use Rattle.mtn_marking.specs.Marking.{MarkedTree}
use Rattle.mtn_model.specs.Table.{Contents, body_at}
use Rattle.mtn_records.specs.Bounds.{IsRosterAt}
use Rattle.mtn_records.specs.Fields.{number_text}
use Rattle.mtn_records.specs.declared.record.RosterRecord.{RosterRecord}
use Rattle.mtn_records.specs.declared.record.RosterRecord.TheVariants.{Whole, Delta}
use Rattle.mtn_history.specs.declared.errors.Damage.{Damage}
use Rattle.mtn_history.specs.declared.errors.Damage.TheVariants.{Bad, Missing}
use Rattle.mtn_history.specs.declared.chains.Base.{Base}
use Rattle.mtn_history.specs.declared.chains.Chain.{Chain}
use Rattle.mtn_history.specs.declared.chains.End.{End}
use Rattle.mtn_history.specs.declared.chains.End.TheVariants.{ToWhole, ToBase, ToMeeting}
use Rattle.mtn_history.specs.declared.chains.Step.{Step}
use Rattle.mtn_history.specs.declared.chains.Step.TheVariants as step
use Rattle.mtn_history.specs.declared.chains.Unmade.{Unmade}
use Rattle.mtn_history.specs.Remembered.{RebuiltRoster}
use Rattle.mtn_history.specs.Meta.{Counted}
use Rattle.mtn_records.specs.declared.error.RecordError.TheVariants as record_error

-- the record of table 5 at a position
pub record IsRostered (c : Contents) (r : ℕ) (roster : RosterRecord) : Type 0 where
  pub body : List ℕ
  pub held : body_at c 5 (number_text r) ≡ Some body
  pub text : IsRosterAt r body roster

-- The records from a position down to a whole one, each delta's base next
abbrev pub IsChainDown : Contents → ℕ → List RosterRecord → Type 0
IsChainDown c r [] = ⊥
IsChainDown c r (Whole entries ∷ rest) = IsRostered c r (Whole entries) × (rest ≡ [])
IsChainDown c r (Delta base depth gone changed ∷ rest) = IsRostered c r (Delta base depth gone changed) × IsChainDown c base rest

-- the records from a position down, of which the last is a delta
abbrev pub IsPathDown : Contents → ℕ → List RosterRecord → ℕ → Type 0
IsPathDown c r [] to = to ≡ r
IsPathDown c r (Whole entries ∷ rest) to = ⊥
IsPathDown c r (Delta base depth gone changed ∷ rest) to = IsRostered c r (Delta base depth gone changed) × IsPathDown c base rest to

-- what stands at a position is no record of a roster, or nothing does
abbrev pub UnrosteredAt : Contents → ℕ → Damage → Type 0
UnrosteredAt c r (Bad table key body) = (table ≡ 5) × (key ≡ number_text r) × (body_at c 5 key ≡ Some body) × ((roster : RosterRecord) → IsRosterAt r body roster → ⊥)
UnrosteredAt c r (Missing table key) = (table ≡ 5) × (key ≡ number_text r) × (body_at c 5 key ≡ None)

-- what is held at a position, or that nothing is
abbrev pub IsRosterHeld : Contents → ℕ → Damage → Type 0
IsRosterHeld c r (Bad table key body) = (table ≡ 5) × (key ≡ number_text r) × (body_at c 5 key ≡ Some body)
IsRosterHeld c r (Missing table key) = (table ≡ 5) × (key ≡ number_text r) × (body_at c 5 key ≡ None)

-- there is a record at a position
abbrev pub IsRosterThere : Contents → ℕ → Type 0
IsRosterThere c r = IsSome (body_at c 5 (number_text r))

-- the record at a position and those below it give no tree with marks
abbrev pub GivesNoTree : Contents → ℕ → Type 0
GivesNoTree c r = (chain : List RosterRecord) (es : Entries) (t : MarkedTree) → IsChainDown c r chain → rebuilt (reverse chain) ≡ Some es → Spells es t → ⊥

-- the same of a record that is shown
abbrev pub UnrebuiltAt : Contents → ℕ → Damage → Type 0
UnrebuiltAt c r d = IsRosterHeld c r d × GivesNoTree c r

-- what a record stands on
abbrev pub base_of : RosterRecord → Option ℕ
base_of (Whole entries) = None
base_of (Delta base depth gone changed) = Some base

-- a position below n whose record is none, is not there, or gives no tree with those below it
pub record UnmadeBelow (n : ℕ) (c : Contents) (d : Damage) : Type 0 where
  pub place : ℕ
  pub below : place < n
  pub wrong : UnrosteredAt c place d ⊎ UnrebuiltAt c place d

-- the entries of a chain, the marked tree that they spell, and how many deltas the chain has
pub record IsRebuilt (c : Contents) (r : ℕ) (es : Entries) (t : MarkedTree) (depth : ℕ) : Type 0 where
  pub chain : List RosterRecord
  pub down : IsChainDown c r chain
  pub entries : rebuilt (reverse chain) ≡ Some es
  pub spelled : Spells es t
  pub deltas : length chain ≡ depth + 1

-- the same of what a call gives
abbrev pub Rebuilds : Contents → ℕ → RebuiltRoster → Type 0
Rebuilds c r found = IsRebuilt c r found.entries found.roster found.depth

-- the same below `count`
pub record RosterDamage (c : Contents) (d : Damage) : Type 0 where
  pub count : ℕ
  pub counted : Counted c count
  pub wrong : UnmadeBelow count c d

-- the positions of records from one down
abbrev pub places : ℕ → List RosterRecord → List ℕ
places r [] = []
places r (Whole entries ∷ rest) = r ∷ []
places r (Delta base depth gone changed ∷ rest) = r ∷ places base rest

-- the entries at a position, which ascend, and how many deltas the chain has
pub record AreEntriesAt (c : Contents) (r : ℕ) (es : Entries) (depth : ℕ) : Type 0 where
  pub chain : List RosterRecord
  pub down : IsChainDown c r chain
  pub entries : rebuilt (reverse chain) ≡ Some es
  pub ascending : ascend es ≡ true
  pub deltas : length chain ≡ depth + 1

-- the deltas from a position down to one whose entries are known
pub record AreDeltasOn (c : Contents) (r : ℕ) (deltas : List RosterRecord) (known : Base) : Type 0 where
  pub base : ℕ
  pub path : IsPathDown c r deltas base
  pub right : AreEntriesAt c base known.entries known.depth

-- The records of a position, the highest first, by what they end at: a whole one, known entries, or a position of the chain
-- `beside` from `top` down
abbrev pub EndsAt : Contents → ℕ → ℕ → List RosterRecord → List RosterRecord → End → Type 0
EndsAt c r top beside records ToWhole = IsChainDown c r records
EndsAt c r top beside records (ToBase known) = AreDeltasOn c r records known
EndsAt c r top beside records (ToMeeting at) = IsPathDown c r records at × ((i : ℕ) × (slice_get (places top beside) i ≡ Some at))

-- the position at which it comes to the chain beside it
abbrev pub meeting_of : End → Option ℕ
meeting_of ToWhole = None
meeting_of (ToBase known) = None
meeting_of (ToMeeting at) = Some at

-- a chain with no other one beside it
abbrev pub IsChainOf : Contents → ℕ → Chain → Type 0
IsChainOf c r chain = EndsAt c r r [] chain.records.items chain.end

-- no position of the chain beside it is come to by fewer records
abbrev pub MeetsNoEarlier : Contents → ℕ → ℕ → List RosterRecord → List RosterRecord → Type 0
MeetsNoEarlier c r top beside records =
    (above : List RosterRecord) (at i : ℕ) → IsPathDown c r above at → slice_get (places top beside) i ≡ Some at → length records ≤ length above

-- the records from a position down to the first end
pub record IsWalk (c : Contents) (r top : ℕ) (beside records : List RosterRecord) (end : End) : Type 0 where
  pub ends : EndsAt c r top beside records end
  pub first : MeetsNoEarlier c r top beside records

-- the records that a walk has read on its way to a position
pub record IsOnWalk (c : Contents) (r top : ℕ) (beside records : List RosterRecord) (next : ℕ) : Type 0 where
  pub path : IsPathDown c r records next
  pub first : MeetsNoEarlier c r top beside records

-- the same after one step more
abbrev pub StepsTo : Contents → ℕ → ℕ → List RosterRecord → List RosterRecord → Step → Type 0
StepsTo c r top beside records (step.End end) = IsWalk c r top beside records end
StepsTo c r top beside records (step.To next) = IsOnWalk c r top beside records next

-- a step reads at most one record more, and one where it goes on, no higher
abbrev pub IsOneMore : ℕ → ℕ → ℕ → Step → Type 0
IsOneMore at old new (step.End end) = new ≤ old + 1
IsOneMore at old new (step.To next) = (new ≡ old + 1) × (next ≤ at)

-- the same of what a walk gives; none where no chain from there gives entries
abbrev pub IsWalkOf : Contents → ℕ → ℕ → List RosterRecord → Option Chain → Type 0
IsWalkOf c r top beside (Some chain) = IsWalk c r top beside chain.records.items chain.end
IsWalkOf c r top beside None = (chain : List RosterRecord) (es : Entries) → IsChainDown c r chain → rebuilt (reverse chain) ≡ Some es → ⊥

-- a position, not above both, that gives no tree, where no memory was wanting
abbrev pub IsUnmade : Contents → ℕ → ℕ → Unmade → Type 0
IsUnmade c left right unmade = unmade.error ≡ record_error.Bad → (unmade.at ≤ max left right) × GivesNoTree c unmade.at

-- no more records were asked for than the chain of a position has
abbrev pub AsksAlong : Contents → ℕ → ℕ → ℕ → Type 0
AsksAlong c r before after = (chain : List RosterRecord) → IsChainDown c r chain → after ≤ before + length chain

-- Where the chains of two positions come to one, no more records were asked for than stand above it on either and from it down:
-- those that both share but once
abbrev pub AsksOnce : Contents → ℕ → ℕ → ℕ → ℕ → Type 0
AsksOnce c left right before after = (a b shared : List RosterRecord) (at : ℕ) → IsPathDown c left a at → IsPathDown c right b at → IsChainDown c at shared →
    after ≤ before + (length a + length b + length shared)
