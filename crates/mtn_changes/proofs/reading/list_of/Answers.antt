use Rattle.std.proofs.Common.{map, sym, ap, subst}
use Rattle.mtn_changes.specs.ChangesText.{AreChanges}
use Rattle.mtn_changes.specs.Stanzas.{stanza_of}
use Rattle.mtn_changes.proofs.Parts.{list_fault, whole_part, none_lawful}
use Rattle.mtn_changes.proofs.Rising.{lawful_more, read_more}
use Rattle.mtn_changes.proofs.reading.list_of.Goals as goal

pub returns-in-Err-clause-err : goal.returns-in-Err-clause-err
returns-in-Err-clause-err c =
    let stanzas = c.args.stanzas.now in
    list_fault stanzas c.loop-at.at c.loop-at.part.changes c.index-stanzas-at.result c.in-Err.fault c.numbered.result c.loop-at-test.true c.index-stanzas-at.is c.loop-at.invariant.lawful c.loop-at.invariant.read c.in-Err.ensures.err c.numbered.ensures

pub loop-at-init : goal.loop-at-init
loop-at-init c =
    let part = c.new-part.ensures in
    record {
      part = whole_part _ _ _ _ part;
      lawful = none_lawful c.new-part.result.changes part.same;
      read = ap (map stanza_of) (sym part.same);
    }

pub loop-at-preserved : goal.loop-at-preserved
loop-at-preserved c =
    let cs = c.loop-at.part.changes in
    let next = c.in_default.ensures.ok in
    record {
      part = c.in_default.ensures.part;
      lawful = subst AreChanges (sym next.3) (lawful_more cs next.0 c.loop-at.invariant.lawful next.2);
      read = read_more c.args.stanzas.now c.loop-at.at c.index-stanzas-at.result cs next.0 c.add.new.self.changes c.loop-at-test.true c.index-stanzas-at.is c.loop-at.invariant.read next.1 next.3;
    }
