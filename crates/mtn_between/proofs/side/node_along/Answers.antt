-- A stop has the place of the entry.
use Rattle.std.proofs.Common.{◌∙◌}
use Rattle.mtn_roster.proofs.Along.{at_stop, got}
use Rattle.mtn_between.specs.Walking.{tree_of}
use Rattle.mtn_between.proofs.side.node_along.Goals as goal

pub returns-in-Some-clause-entry : goal.returns-in-Some-clause-entry
returns-in-Some-clause-entry c =
    let at = c.in-Some.ensures.lookup in
    let walk = c.args.side.now.walk.now in
    c.node_at.ensures.entry ∙ at_stop (tree_of c.args.side.now) walk c.requires.stops c.args.at c.in-Some.stop.now (got walk c.args.at c.in-Some.stop.now at.3.0 at.1)
