-- One attribute more each time.
use Rattle.std.proofs.Common.{◌∙◌, sym, ap}
use Rattle.mtn_marking.specs.declared.node.AttrMarks.{AttrMarks}
use Rattle.mtn_records.specs.declared.entry.NumberedAttr.{NumberedAttr}
use Rattle.mtn_roster_deltas.proofs.Attributes.{attrs_more, marks_more}
use Rattle.mtn_roster_deltas.proofs.numbering.numbered_attrs.Goals as goal

pub loop-place-preserved : goal.loop-place-preserved
loop-place-preserved c =
    let z : NumberedAttr = record { key = c.in_ok-copy.field-0; value = c.in_ok-copy_value.field-0; marks = c.in_ok-copy-2.field-0 } in (
      attrs_more c.args.attrs.now c.args.marks.now c.requires c.loop-place.numbered.items c.push.new.self.items c.loop-place.place c.loop-place-test.true c.index-attrs-place.result c.index-marks-place.result z
          c.index-attrs-place.is c.index-marks-place.is c.in_ok-copy.ensures c.in_ok-push.ensures.items c.in_ok-copy_value.ensures c.loop-place.invariant.0,
      marks_more c.args.attrs.now c.args.marks.now c.requires c.loop-place.numbered.items c.push.new.self.items c.loop-place.place c.loop-place-test.true c.index-attrs-place.result c.index-marks-place.result z
          c.index-attrs-place.is c.index-marks-place.is c.in_ok-copy.ensures c.in_ok-push.ensures.items (c.in_ok-copy-2.ensures ∙ ap (λ (x : AttrMarks). x.marks) (sym c.index-marks-place.is)) c.loop-place.invariant.1,
    )
