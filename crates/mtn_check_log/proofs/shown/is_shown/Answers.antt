use Rattle.std.proofs.Common.{arith}
use Rattle.mtn_check_log.proofs.Showing.{high_text, named_text, unplaced_text}
use Rattle.mtn_check_log.proofs.shown.is_shown.Goals as goal

pub returns-in-None-clause-shown : goal.returns-in-None-clause-shown
returns-in-None-clause-shown g c = unplaced_text (g.K.Keeper.contents c.args.keeper.now) c.args.count c.args.id.now c.args.body.now (omega (arith, c.ranges.count.fits)) c.in-None.ensures

pub returns-then-at-count-clause-shown : goal.returns-then-at-count-clause-shown
returns-then-at-count-clause-shown g c =
    high_text (g.K.Keeper.contents c.args.keeper.now) c.args.count c.in-Some.at c.args.id.now c.args.body.now c.in-Some.field-0-1.now c.in-Some.ensures c.if-at-count.true

pub returns-clause-shown : goal.returns-clause-shown
returns-clause-shown g c =
    named_text (g.K.Keeper.contents c.is_logged.new.keeper) c.args.count c.in-Some.at c.args.id.now c.args.body.now c.in-Some.field-0-1.now c.is_logged.result
    c.in-Some.ensures c.if-at-count.false c.is_logged.ensures.named
