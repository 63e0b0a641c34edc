use Rattle.std.proofs.Common.{◌≡◌, ◌++◌, take, map}
use Rattle.mtn_conflicts.specs.ConflictText.{item_stanza}
use Rattle.mtn_conflicts.specs.Printing.{behind}
use Rattle.mtn_conflicts.proofs.text.write_items.Given as goal

abbrev pub invariant-loop-item : goal.invariant-loop-item
invariant-loop-item l = l.out.items ≡ l.fn.out.items ++ behind (map (item_stanza l.kind) (take l.item-index l.items))
