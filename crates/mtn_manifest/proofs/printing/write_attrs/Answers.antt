-- One more attribute.
use Rattle.mtn_basic_io.proofs.Kept.{front_trans}
use Rattle.mtn_manifest.proofs.Columns.{lines_more}
use Rattle.mtn_manifest.proofs.printing.write_attrs.Goals as goal

pub loop-attr-preserved : goal.loop-attr-preserved
loop-attr-preserved c = (
  lines_more c.args.column c.args.out.now.items c.loop-attr.out.items c.write_attr.new.out.items c.args.attrs.now c.loop-attr.attr-index c.attr-item.result c.loop-attr-test.true c.attr-item.is c.loop-attr.invariant.0
      c.in_ok-write_attr.ensures.ok,
  front_trans c.loop-attr.invariant.1 c.in_ok-write_attr.ensures.kept,
)
