-- One more attribute each time.
use Rattle.mtn_marking.specs.Parts.{seen, IsMarkedAttr}
use Rattle.mtn_marking.proofs.Zips.{zip_next, zip_all}
use Rattle.mtn_marking.proofs.entry.mark_attrs.Goals as goal

pub loop-attr-preserved : goal.loop-attr-preserved
loop-attr-preserved c =
    zip_next (IsMarkedAttr c.args.against.now.at c.args.against.now.only_left.now c.args.against.now.only_right.now (seen c.args.left) (seen c.args.right))
    c.args.attrs.now c.loop-attr.marks.items c.push.new.self.items c.loop-attr.attr-index c.attr-item.result _
    c.loop-attr-test.true c.attr-item.is c.loop-attr.invariant c.in_ok-mark_attr.ensures c.in_ok-push.ensures.items

pub returns : goal.returns
returns c =
    zip_all (IsMarkedAttr c.args.against.now.at c.args.against.now.only_left.now c.args.against.now.only_right.now (seen c.args.left) (seen c.args.right))
    c.args.attrs.now c.loop-attr.marks.items c.loop-attr.attr-index c.loop-attr-test.false c.loop-attr.invariant
