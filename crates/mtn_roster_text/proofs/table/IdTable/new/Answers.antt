-- The positions ascend, and so do those of the table.
use Rattle.mtn_roster_text.proofs.Tables.{table_rises}
use Rattle.mtn_roster_text.proofs.table.IdTable.new.Goals as goal

pub invariant_of-result : goal.invariant_of-result
invariant_of-result c = table_rises c.args.places.now c.args.ids.now c.in_ok-items.items.items c.in_ok-items.ensures c.requires
