-- The entry at a place is one of the old tree.
use Rattle.mtn_apply.specs.Old.{entry_in}
use Rattle.mtn_apply.specs.Index.{old_of, changes_of}
use Rattle.mtn_apply.proofs.OldKeys.{old_keys, placed_in}
use Rattle.mtn_apply.proofs.after.kept_place.Goals as goal

pub kept_entry-requires-clause-rising : goal.kept_entry-requires-clause-rising
kept_entry-requires-clause-rising c =
    let old = old_of c.args.edge.now in
    old_keys old (changes_of c.args.edge.now) c.requires.indexed.sane (entry_in c.in-Some.node) (placed_in old c.in-Some.node.place (entry_in c.in-Some.node) c.in-Some.ensures.node)
