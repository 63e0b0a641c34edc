use Rattle.std.proofs.Common.{◌<◌, ◌∙◌, length, sym, arith}
use Rattle.mtn_base.proofs.Members.{any_default}
use Rattle.mtn_conflicts.proofs.Seen.{here, seen_met, seen_round}
use Rattle.mtn_conflicts.proofs.loops.see.Goals as goal

pub returns-then-index-mark-clause-seen : goal.returns-then-index-mark-clause-seen
returns-then-index-mark-clause-seen c =
    let low : c.mark_way-at.result < length c.mark_way-at.new.marks.items = omega (arith, c.mark_way-at.ensures.within, c.mark_way-at.ensures.way.1.long, c.requires.seen.long) in
    seen_round c.args.ups.now c.requires.within c.args.from c.args.marks.now.items c.mark_way-at.result c.mark_way-at.new.marks.items c.requires.earlier c.mark_way-at.ensures.within c.mark_way-at.ensures.way
    c.args.flags.now.items c.requires.seen
    (any_default c.mark_way-at.new.marks.items c.mark_way-at.result 0 c.index.result.now low ∙ sym c.index.ensures ∙ c.if-index-mark.true)
    c.raise_round.new.flags.items c.raise_round.ensures

pub returns-else-index-mark-clause-here : goal.returns-else-index-mark-clause-here
returns-else-index-mark-clause-here c =
    here c.args.ups.now c.requires.within c.args.from c.args.marks.now.items c.mark_way-at.result c.mark_way-at.new.marks.items c.requires.earlier c.mark_way-at.ensures.within c.mark_way-at.ensures.way

pub returns-else-index-mark-clause-seen : goal.returns-else-index-mark-clause-seen
returns-else-index-mark-clause-seen c =
    let low : c.mark_way-at.result < length c.mark_way-at.new.marks.items = omega (arith, c.mark_way-at.ensures.within, c.mark_way-at.ensures.way.1.long, c.requires.seen.long) in
    seen_met c.args.ups.now c.requires.within c.args.from c.args.marks.now.items c.mark_way-at.result c.mark_way-at.new.marks.items c.requires.earlier c.mark_way-at.ensures.within c.mark_way-at.ensures.way
    c.args.flags.now.items c.requires.seen
    (λ e. c.if-index-mark.false (c.index.ensures ∙ any_default c.mark_way-at.new.marks.items c.mark_way-at.result c.index.result.now 0 low ∙ e))
