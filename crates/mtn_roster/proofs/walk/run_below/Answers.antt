-- A file has no children.
use Rattle.std.proofs.Common.{◌≡◌, false, sym}
use Rattle.mtn_roster.specs.Tree.{is_dir}
use Rattle.mtn_roster.proofs.Childless.{childless}
use Rattle.mtn_roster.proofs.walk.run_below.Goals as goal

pub returns-else-is_dir : goal.returns-else-is_dir
returns-else-is_dir c =
    let f = c.if-is_dir.ensures in
    let file : is_dir c.args.above.now ≡ false = cc in
    sym (childless c.args.entries.now c.requires.sane c.args.above.now c.requires.node file c.args.by_slot.now c.requires.index)
