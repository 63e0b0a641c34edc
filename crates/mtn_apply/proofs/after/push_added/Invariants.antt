use Rattle.std.specs.Prelude.{filter_map}
use Rattle.std.proofs.Common.{◌≡◌, ◌++◌, take}
use Rattle.mtn_changeset_laws.specs.Changes.{added_by}
use Rattle.mtn_apply.specs.Index.{old_of, changes_of}
use Rattle.mtn_apply.proofs.after.push_added.Given as goal

abbrev pub invariant-loop-change : goal.invariant-loop-change
invariant-loop-change l = l.entries.items ≡ l.fn.entries.items ++ filter_map (added_by (old_of l.edge) (changes_of l.edge) l.new) (take l.change-index (changes_of l.edge))
