-- One more attribute.
use Rattle.mtn_basic_io.proofs.Kept.{front_trans}
use Rattle.mtn_roster_text.specs.Naming.{ids_by}
use Rattle.mtn_roster_text.specs.RosterText.{attr_lines}
use Rattle.mtn_roster_text.proofs.Lines.{lines_more}
use Rattle.mtn_roster_text.proofs.printing.write_attrs.Goals as goal

pub loop-attr-preserved : goal.loop-attr-preserved
loop-attr-preserved c = (
  λ n. lines_more c.args.column (attr_lines (ids_by c.args.table.now c.args.marking.now) n) c.args.attrs.now c.loop-attr.attr-index c.attr-item.result c.args.out.now.items c.loop-attr.out.items c.write_attr.new.out.items c.loop-attr-test.true
      c.attr-item.is (c.loop-attr.invariant.0 n) (c.in_ok-write_attr.ensures.ok n),
  front_trans c.loop-attr.invariant.1 c.in_ok-write_attr.ensures.kept,
)
