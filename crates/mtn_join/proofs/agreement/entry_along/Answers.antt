-- A stop has the place of the entry.
use Rattle.std.proofs.Common.{◌∙◌}
use Rattle.mtn_roster.proofs.Along.{at_stop, got}
use Rattle.mtn_join.proofs.agreement.entry_along.Goals as goal

pub returns-in-Some : goal.returns-in-Some
returns-in-Some c =
    let at = c.in-Some.ensures.lookup in
    c.at_place.ensures ∙ at_stop c.args.roster.now c.args.stops.now c.requires c.args.at c.in-Some.stop.now (got c.args.stops.now c.args.at c.in-Some.stop.now at.3.0 at.1)
