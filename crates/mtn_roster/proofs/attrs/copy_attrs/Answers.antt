-- One more copy each time.
use Rattle.std.proofs.Common.{◌∙◌}
use Rattle.std.proofs.lemmas.List.{take_all}
use Rattle.mtn_roster.proofs.Reading.{copied_more}
use Rattle.mtn_roster.proofs.attrs.copy_attrs.Goals as goal

pub loop-attr-preserved : goal.loop-attr-preserved
loop-attr-preserved c =
    copied_more c.args.attrs.now c.loop-attr.copies.items c.push.new.self.items c.loop-attr.attr-index c.attr-item.result c.in_ok-copy.field-0
    c.loop-attr-test.true c.attr-item.is c.in_ok-copy.ensures c.loop-attr.invariant c.in_ok-push.ensures.items

pub returns : goal.returns
returns c = c.loop-attr.invariant ∙ take_all c.loop-attr.attr-index c.args.attrs.now c.loop-attr-test.false
