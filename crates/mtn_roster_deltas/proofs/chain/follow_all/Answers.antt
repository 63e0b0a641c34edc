-- One record more each time.
use Rattle.mtn_roster_deltas.specs.Chain.{after_all}
use Rattle.mtn_roster_deltas.proofs.Differing.{goes_on}
use Rattle.mtn_roster_deltas.proofs.chain.follow_all.Goals as goal

pub loop-next-preserved : goal.loop-next-preserved
loop-next-preserved c = goes_on (after_all c.args.depth c.args.entries.items c.args.records.items) c.loop-next.depth c.loop-next.entries.items c.loop-next.records.items c.pop_front.new.self.items c.in-Some.next c.in_ok-entries.entries.items
    c.loop-next.invariant c.in-Some.ensures.items c.in_ok-entries.ensures.ok
