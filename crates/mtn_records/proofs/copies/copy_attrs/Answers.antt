-- One copy more in each turn.
use Rattle.std.proofs.Common.{◌∙◌}
use Rattle.std.proofs.lemmas.List.{take_all}
use Rattle.mtn_records.proofs.Turns.{copied_more}
use Rattle.mtn_records.proofs.copies.copy_attrs.Goals as goal

pub loop-attr-preserved : goal.loop-attr-preserved
loop-attr-preserved c =
    copied_more c.args.attrs.now c.loop-attr.attr-index c.attr-item.result c.loop-attr-test.true c.attr-item.is c.loop-attr.copies.items c.push.new.self.items c.in_ok-copy.field-0 c.loop-attr.invariant c.in_ok-copy.ensures c.in_ok-push.ensures.items

pub returns : goal.returns
returns c = c.loop-attr.invariant ∙ take_all c.loop-attr.attr-index c.args.attrs.now c.loop-attr-test.false
