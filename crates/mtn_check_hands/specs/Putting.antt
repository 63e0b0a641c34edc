-- What was read of a position, put together.
use Rattle.std.specs.Prelude.{◌≡◌, ℕ}
use Rattle.mtn_check_records.specs.Reading.{IsGivenAt}
use Rattle.mtn_records.specs.declared.record.RosterRecord.TheVariants.{Whole}
use Rattle.mtn_check_hands.specs.declared.kin.Kin.{Kin}
use Rattle.mtn_check_hands.specs.declared.read.Read.{Read}
use Rattle.mtn_check_hands.specs.declared.records.Records.{Records}
use Rattle.mtn_check_hands.specs.declared.stored.Stored.{Stored}

abbrev pub read_of : ℕ → Records → ℕ → Kin → Stored → Read
read_of at records next kin stored = record {
  position = record { entry = records.entry; log = records.log; roster = records.roster; depth = stored.depth; next = next; parents = kin.parents; held = records.mentions.held };
  job = record { text = records.text; at = at; id = records.entry.id; parents = kin.records; stored = Whole stored.entries; only_left = kin.only_left; only_right = kin.only_right };
  hand = record { id = records.entry.id; next = records.entry.next_node; depth = stored.depth; entries = stored.entries };
}

-- read from these, with a roster that the record gives over the parents'
abbrev pub IsReadOf : ℕ → Records → ℕ → Kin → Read → Type 0
IsReadOf at records next kin read =
    (stored : Stored) × (read ≡ read_of at records next kin stored) × IsGivenAt at records.roster.items kin.parents kin.records stored.entries stored.depth
