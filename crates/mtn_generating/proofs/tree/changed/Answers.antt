use Rattle.mtn_generated.specs.Numbered.{no_id}
use Rattle.mtn_generating.proofs.TreeLemmas.{kept_same, makes_as}
use Rattle.mtn_generating.proofs.tree.changed.Goals as goal

pub returns : goal.returns
returns c =
    let old = c.args.old.now in
    let changes = c.args.changes.now in
    makes_as old changes c.in_ok-new.new no_id c.apply.result c.apply.ensures.ok c.apply.ensures.fine c.apply.ensures.err (kept_same old changes c.requires c.in_ok-new.new no_id) c.tree_or_cause.result c.tree_or_cause.ensures
