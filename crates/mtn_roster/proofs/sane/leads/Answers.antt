-- One more step up.
use Rattle.std.proofs.Common.{get_or, refl}
use Rattle.mtn_roster.proofs.Marking.{climbed-more}
use Rattle.mtn_roster.proofs.sane.leads.Goals as goal

pub loop-preserved : goal.loop-preserved
loop-preserved c = (
  c.requires.within c.loop.at 0 c.loop.invariant.0,
  climbed-more c.args.ups.now c.loop.counter c.args.from c.loop.at (get_or c.args.ups.now c.loop.at 0) c.loop.invariant.1 refl,
)
