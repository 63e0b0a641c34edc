use Rattle.std.proofs.Common.{map, sym, ap, subst, ◌∙◌}
use Rattle.std.proofs.lemmas.List.{take_all}
use Rattle.mtn_changes.specs.ChangesText.{AreChanges}
use Rattle.mtn_changes.specs.Stanzas.{stanza_of}
use Rattle.mtn_changes.proofs.Fronts.{run_ends, run_fault}
use Rattle.mtn_changes.proofs.Parts.{whole_part, none_lawful}
use Rattle.mtn_changes.proofs.Rising.{lawful_more, read_more}
use Rattle.mtn_changes.proofs.revision.run_of.Goals as goal

pub returns-in-Some-clause-ok : goal.returns-in-Some-clause-ok
returns-in-Some-clause-ok c =
    let cs = c.loop-at.part.changes in
    rw c.into_changes-changes.ensures (record {
      lawful = c.loop-at.invariant.lawful;
      ends = run_ends c.args.stanzas.now c.loop-at.at cs c.index-stanzas-at.result c.in-Some.parent c.loop-at-test.true c.index-stanzas-at.is c.loop-at.invariant.read c.in-Some.ensures;
    })

pub returns-in-Err-clause-err : goal.returns-in-Err-clause-err
returns-in-Err-clause-err c =
    run_fault c.args.stanzas.now c.args.from c.loop-at.at c.loop-at.part.changes c.index-stanzas-at.result c.in-Err.fault c.numbered.result c.loop-at-test.true c.index-stanzas-at.is c.loop-at.invariant.lawful c.loop-at.invariant.read c.in_default.ensures c.in-Err.ensures.err c.numbered.ensures

pub loop-at-init : goal.loop-at-init
loop-at-init c =
    let part = c.new-part.ensures in
    record {
      part = whole_part _ _ _ _ part;
      lawful = none_lawful c.new-part.result.changes part.same;
      read = ap (map stanza_of) (sym part.same);
    }

pub loop-at-preserved : goal.loop-at-preserved
loop-at-preserved c =
    let cs = c.loop-at.part.changes in
    let next = c.in_default-add.ensures.ok in
    record {
      part = c.in_default-add.ensures.part;
      lawful = subst AreChanges (sym next.3) (lawful_more cs next.0 c.loop-at.invariant.lawful next.2);
      read = read_more c.args.stanzas.now c.loop-at.at c.index-stanzas-at.result cs next.0 c.add.new.self.changes c.loop-at-test.true c.index-stanzas-at.is c.loop-at.invariant.read next.1 next.3;
    }

pub returns-clause-ok : goal.returns-clause-ok
returns-clause-ok c =
    rw c.into_changes-changes-2.ensures (record {
      lawful = c.loop-at.invariant.lawful;
      ends = sym (take_all c.loop-at.at c.args.stanzas.now c.loop-at-test.false) ∙ c.loop-at.invariant.read;
    })
