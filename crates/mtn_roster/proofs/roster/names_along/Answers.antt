-- One more name each time.
use Rattle.std.proofs.Common.{get_or}
use Rattle.mtn_roster.specs.declared.walk.Stop.{Stop}
use Rattle.mtn_base.proofs.Members.{any_default}
use Rattle.mtn_roster.proofs.Naming.{named_more}
use Rattle.mtn_roster.proofs.roster.names_along.Goals as goal

pub loop-stop-preserved : goal.loop-stop-preserved
loop-stop-preserved c =
    let none : Stop = record { place = 0; above = 0 } in
    let i = c.loop-stop.stop-index in
    let p = get_or c.args.stops.now i none in
    named_more c.args.entries.now Stop (λ s. s.place) c.args.stops.now i p c.index-entries-stop.result c.loop-stop.names.items c.push.new.self.items c.in_ok-copy.field-0
    c.loop-stop-test.true (any_default c.args.stops.now i none p c.loop-stop-test.true) (c.requires i none c.loop-stop-test.true) c.index-entries-stop.is c.in_ok-copy.ensures c.loop-stop.invariant c.in_ok-push.ensures.items
