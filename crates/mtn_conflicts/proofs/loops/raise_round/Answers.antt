use Rattle.std.specs.Prelude.{slice_index}
use Rattle.std.proofs.Common.{◌∙◌, refl, sym, arith}
use Rattle.mtn_roster.proofs.Marking.{climbed-more}
use Rattle.mtn_conflicts.proofs.Looping.{up_within}
use Rattle.mtn_conflicts.proofs.Seen.{raised_to_more, raised_round, raised_out}
use Rattle.mtn_conflicts.proofs.loops.raise_round.Goals as goal

pub returns-then-at-start : goal.returns-then-at-start
returns-then-at-start c =
    raised_round c.args.ups.now c.requires.within c.args.start c.loop.counter c.args.flags.now.items c.raise.new.flags.items
    (sym (climbed-more c.args.ups.now c.loop.counter c.args.start c.loop.at (slice_index c.args.ups.now c.loop.at) c.loop.invariant.1 refl) ∙ c.if-at-start.true)
    (raised_to_more c.args.ups.now c.requires.within c.args.start c.loop.counter c.loop.at c.args.flags.now.items c.loop.flags.items c.raise.new.flags.items c.loop.invariant.1 c.loop.invariant.2 c.raise.ensures)

pub loop-preserved : goal.loop-preserved
loop-preserved c = (
  up_within c.args.ups.now c.requires.within c.loop.at c.loop.invariant.0,
  climbed-more c.args.ups.now c.loop.counter c.args.start c.loop.at (slice_index c.args.ups.now c.loop.at) c.loop.invariant.1 refl,
  raised_to_more c.args.ups.now c.requires.within c.args.start c.loop.counter c.loop.at c.args.flags.now.items c.loop.flags.items c.raise.new.flags.items c.loop.invariant.1 c.loop.invariant.2 c.raise.ensures,
)

pub returns : goal.returns
returns c =
    raised_out c.args.ups.now c.requires.within c.args.start c.loop.counter c.args.flags.now.items c.loop.flags.items c.requires.start (omega (arith, c.loop-test.false, c.loop.auto.counter-end)) c.loop.invariant.2
