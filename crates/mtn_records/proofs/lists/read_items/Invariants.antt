use Rattle.std.proofs.Common.{◌≡◌, ◌+◌, length}
use Rattle.mtn_records.specs.Fields.{BeginsWithAll}
use Rattle.mtn_records.proofs.lists.read_items.Given as goal

abbrev pub invariant-loop-left : goal.invariant-loop-left
invariant-loop-left g l = record {
  so_far : BeginsWithAll g.T.Field.text g.T.Field.form (length l.items.items) l.bytes l.items.items l.rest;
  left : length l.items.items + l.left ≡ l.count;
}

abbrev pub decreases-loop-left : goal.decreases-loop-left
decreases-loop-left g l = l.left
