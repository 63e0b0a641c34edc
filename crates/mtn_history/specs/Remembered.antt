-- A roster as its records give it. Our choice.
use Rattle.std.specs.Prelude.{ℕ}
use Rattle.mtn_marking.specs.Marking.{MarkedTree}
use Rattle.mtn_roster_deltas.specs.Chain.{Entries}

-- the entries that the numbers of its nodes tell, the tree with its marks, and how many deltas its record stands above a whole one
pub record RebuiltRoster : Type 0 where
  pub entries : Entries
  pub roster : MarkedTree
  pub depth : ℕ
