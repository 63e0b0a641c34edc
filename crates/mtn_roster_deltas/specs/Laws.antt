-- What a chain gives, in one word for the laws.
use Rattle.std.specs.Prelude.{◌≡◌, List, Some}
use Rattle.mtn_marking.specs.Marking.{MarkedTree}
use Rattle.mtn_records.specs.declared.record.RosterRecord.{RosterRecord}
use Rattle.mtn_roster_deltas.specs.Chain.{Entries, rebuilt}
use Rattle.mtn_roster_deltas.specs.Spelled.{Spells}

-- the chain gives these entries, and they spell this marked tree and no other
pub record Gives (chain : List RosterRecord) (es : Entries) (t : MarkedTree) : Type 0 where
  pub entries : rebuilt chain ≡ Some es
  pub spelled : Spells es t
  pub only : (u : MarkedTree) → Spells es u → u ≡ t
