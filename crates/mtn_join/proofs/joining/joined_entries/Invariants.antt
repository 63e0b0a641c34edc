use Rattle.std.proofs.Common.{◌≡◌, ◌++◌, length, map, vec_len}
use Rattle.std.specs.Vec.Iter.{into_iter_items}
use Rattle.mtn_join.specs.Pairing.{unordered_entry}
use Rattle.mtn_join.proofs.joining.joined_entries.Given as goal

abbrev pub invariant-loop-x : goal.invariant-loop-x
invariant-loop-x l =
    (l.yielded ++ into_iter_items l.x-iterator ≡ l.fn.left.items)
    × (l.entries.items ≡ map (unordered_entry l.fn.left.items l.fn.right l.new) l.yielded)
    × (vec_len l.entries ≡ length l.yielded)
