-- Node by node: the bytes of each path from its parent's.
use Rattle.std.proofs.Common.{sym, ◌∙◌, ap, subst, arith, get_or}
use Rattle.mtn_manifest.proofs.Prefixes.{copied_some}
use Rattle.mtn_roster.specs.declared.entry.Entry.{Entry}
use Rattle.mtn_roster.specs.declared.walk.Stop.{Stop}
use Rattle.mtn_roster.proofs.Along.{stop_has}
use Rattle.mtn_make_roster.specs.Limits.{slashed_at, IsMet}
use Rattle.mtn_make_roster.proofs.Lengths.{at_stop, found_long, summed_more}
use Rattle.mtn_make_roster.proofs.limits.long_place.Goals as goal

pub unwrap-entry-requires : goal.unwrap-entry-requires
unwrap-entry-requires c =
    let has = stop_has c.args.roster.now c.args.stops.now c.requires c.loop-stop.stop-index (record { place = 0; above = 0 }) c.loop-stop-test.true in
    copied_some c.at_place.result has.0 (c.at_place.ensures ∙ has.1)

pub slashed_length-length-requires : goal.slashed_length-length-requires
slashed_length-length-requires c =
    let e : Entry = c.unwrap-entry.result.now in
    let s : Stop = get_or c.args.stops.now c.loop-stop.stop-index (record { place = 0; above = 0 }) in
    let at = at_stop c.args.roster.now c.len-nodes.ensures.sane c.args.stops.now c.requires c.loop-stop.stop-index (record { place = 0; above = 0 }) c.loop-stop-test.true
    c.at_place.result c.unwrap-entry.result c.unwrap-entry.ensures c.at_place.ensures c.loop-stop.lengths.items c.loop-stop.invariant in
    subst (λ l. IsMet l e.slot s.above) (sym c.deref.ensures.value) at.has.met

pub returns-then-length : goal.returns-then-length
returns-then-length c =
    let e : Entry = c.unwrap-entry.result.now in
    let s : Stop = get_or c.args.stops.now c.loop-stop.stop-index (record { place = 0; above = 0 }) in
    let at = at_stop c.args.roster.now c.len-nodes.ensures.sane c.args.stops.now c.requires c.loop-stop.stop-index (record { place = 0; above = 0 }) c.loop-stop-test.true
    c.at_place.result c.unwrap-entry.result c.unwrap-entry.ensures c.at_place.ensures c.loop-stop.lengths.items c.loop-stop.invariant in
    found_long c.args.roster.now c.len-nodes.ensures.sane c.args.stops.now c.requires c.loop-stop.stop-index (record { place = 0; above = 0 }) c.loop-stop-test.true
    e c.loop-stop.lengths.items c.slashed_length-length.result at c.loop-stop.invariant
    (c.slashed_length-length.ensures ∙ ap (λ l. slashed_at l e.slot s.above) c.deref.ensures.value) (omega (arith, c.if-length.true))

pub loop-stop-preserved : goal.loop-stop-preserved
loop-stop-preserved c =
    let e : Entry = c.unwrap-entry.result.now in
    let s : Stop = get_or c.args.stops.now c.loop-stop.stop-index (record { place = 0; above = 0 }) in
    let at = at_stop c.args.roster.now c.len-nodes.ensures.sane c.args.stops.now c.requires c.loop-stop.stop-index (record { place = 0; above = 0 }) c.loop-stop-test.true
    c.at_place.result c.unwrap-entry.result c.unwrap-entry.ensures c.at_place.ensures c.loop-stop.lengths.items c.loop-stop.invariant in
    summed_more c.args.roster.now c.len-nodes.ensures.sane c.args.stops.now c.requires c.loop-stop.stop-index (record { place = 0; above = 0 }) c.loop-stop-test.true
    e c.loop-stop.lengths.items _ c.slashed_length-length.result at c.loop-stop.invariant
    (c.slashed_length-length.ensures ∙ ap (λ l. slashed_at l e.slot s.above) c.deref.ensures.value) (omega (arith, c.if-length.false)) c.in_ok-push.ensures.items
