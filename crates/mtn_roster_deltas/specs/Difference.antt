-- What differs between two lists of entries.
use Rattle.std.specs.Prelude.{◌≡◌, ℕ, ◌↔◌, ◌⊎◌, List, true, false, IsTrue, Contains}
use Rattle.std.specs.Ordering.{nat_cmp}
use Rattle.mtn_base.specs.Lists.{rises}
use Rattle.mtn_records.specs.declared.entry.NumberedEntry.{NumberedEntry}
use Rattle.mtn_records.specs.declared.record.RosterRecord.{RosterRecord}
use Rattle.mtn_records.specs.declared.record.RosterRecord.TheVariants.{Delta}
use Rattle.mtn_roster_deltas.specs.Chain.{Entries, ascend, is_there}

-- The numbers that the base has and the new list lacks are gone, and the new entries that the base has not, as they are, are
-- changed; both ascend
pub record IsDifference (base new : Entries) (gone : List ℕ) (changed : Entries) : Type 0 where
  pub gone_ascend : IsTrue (rises nat_cmp gone)
  pub gone_are : (n : ℕ) → Contains gone n ↔ ((is_there base n ≡ true) × (is_there new n ≡ false))
  pub changed_ascend : IsTrue (ascend changed)
  pub changed_are : (e : NumberedEntry) → Contains changed e → Contains new e × (Contains base e → ⊥)
  pub others_stay : (e : NumberedEntry) → Contains new e → Contains changed e ⊎ Contains base e

-- The record is a delta of this depth on that base which makes the new entries
pub record IsDeltaTo (base : Entries) (base_at depth : ℕ) (new : Entries) (r : RosterRecord) : Type 0 where
  pub gone : List ℕ
  pub changed : Entries
  pub is : r ≡ Delta base_at depth gone changed
  pub difference : IsDifference base new gone changed
