use Rattle.std.proofs.Common.{[]}
use Rattle.mtn_base.specs.declared.id.Id.{Id}
use Rattle.mtn_branches.specs.Graphs.{IsHeldBy}
use Rattle.mtn_cases_packets.proofs.Held.{each_more}
use Rattle.mtn_cases_packets.proofs.asking.are_held.Goals as goal

pub loop-id-preserved : goal.loop-id-preserved
loop-id-preserved c =
    let none : Id = record { 0 = [] } in
    each_more (IsHeldBy c.args.graph.now) c.args.ids.now c.loop-id.id-index none c.loop-id-test.true c.loop-id.invariant (c.in-Some.field-0, c.in-Some.ensures.found)
