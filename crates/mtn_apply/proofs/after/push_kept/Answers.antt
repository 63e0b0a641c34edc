-- What the new tree has of one old node more.
use Rattle.mtn_changeset_laws.specs.Changes.{old_after}
use Rattle.mtn_apply.specs.Index.{old_of, changes_of}
use Rattle.mtn_apply.proofs.Gathered.{one_more}
use Rattle.mtn_apply.proofs.after.push_kept.Goals as goal

pub loop-place-preserved : goal.loop-place-preserved
loop-place-preserved c =
    let old = old_of c.args.edge.now in
    one_more (old_after old (changes_of c.args.edge.now) c.args.new) old c.loop-place.place c.args.entries.now.items c.loop-place.entries.items c.push_some.new.entries.items c.in_ok-entry.entry
    c.loop-place.invariant c.in_ok-entry.ensures c.in_ok-push_some.ensures
