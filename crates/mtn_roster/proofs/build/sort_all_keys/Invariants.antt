use Rattle.std.proofs.Common.{◌≡◌}
use Rattle.mtn_roster.specs.Building.{KeysDiffer, with_keys_in_order}
use Rattle.mtn_roster.proofs.KeysInOrder.{begun, AllBegun}
use Rattle.mtn_roster.proofs.build.sort_all_keys.Given as goal

abbrev pub invariant-loop-entry : goal.invariant-loop-entry
invariant-loop-entry l = (l.entries ≡ begun with_keys_in_order l.entry-index l.initial.entries) × AllBegun KeysDiffer l.entry-index l.initial.entries
