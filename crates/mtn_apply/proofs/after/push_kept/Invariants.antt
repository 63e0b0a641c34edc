use Rattle.std.specs.Prelude.{filter_map}
use Rattle.std.proofs.Common.{◌≡◌, ◌++◌, take}
use Rattle.mtn_changeset_laws.specs.Changes.{old_after}
use Rattle.mtn_apply.specs.Index.{old_of, changes_of}
use Rattle.mtn_apply.proofs.after.push_kept.Given as goal

abbrev pub invariant-loop-place : goal.invariant-loop-place
invariant-loop-place l = l.entries.items ≡ l.fn.entries.items ++ filter_map (old_after (old_of l.edge) (changes_of l.edge) l.new) (take l.place (old_of l.edge))
