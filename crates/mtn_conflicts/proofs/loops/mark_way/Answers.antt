use Rattle.std.proofs.Common.{◌<◌, length, sym, ◌∙◌, arith}
use Rattle.mtn_base.proofs.Members.{any_default}
use Rattle.mtn_conflicts.proofs.Looping.{up_within}
use Rattle.mtn_conflicts.proofs.Seen.{way_more, way_met}
use Rattle.mtn_conflicts.proofs.loops.mark_way.Goals as goal

pub loop-preserved : goal.loop-preserved
loop-preserved c =
    let low : c.loop.at < length c.loop.marks.items = omega (arith, c.loop.invariant.0, c.loop.invariant.1.long, c.requires.long) in (
      up_within c.args.ups.now c.requires.within c.loop.at c.loop.invariant.0,
      way_more c.args.ups.now c.requires.within c.args.from c.args.mark c.args.marks.now.items c.loop.counter c.loop.at c.loop.marks.items c.requires.mark low c.loop.invariant.1 (any_default c.loop.marks.items c.loop.at 0 c.index.result.now low ∙ sym c.index.ensures ∙ c.if-index-ne0.false),
    )

pub returns-clause-way : goal.returns-clause-way
returns-clause-way c = (
  c.loop.counter,
  c.loop.invariant.1,
  way_met c.args.ups.now c.requires.within c.args.from c.args.mark c.args.marks.now.items c.loop.at c.loop.marks.items c.requires.mark c.requires.from c.loop.counter (omega (arith, c.loop-test.false, c.loop.auto.counter-end)) c.loop.invariant.1,
)
