use Rattle.std.proofs.Common.{◌≡◌, take}
use Rattle.std.specs.Prelude.{filter_map}
use Rattle.mtn_roster_text.specs.Naming.{id_at}
use Rattle.mtn_roster_text.proofs.naming.put_ids.Given as goal

abbrev pub invariant-loop-at : goal.invariant-loop-at
invariant-loop-at l = l.ids.items ≡ filter_map (id_at l.table) (take l.at-index l.marks)
