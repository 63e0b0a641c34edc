use Rattle.std.proofs.Common.{ap, length}
use Rattle.mtn_changes.proofs.Edges.{third}
use Rattle.mtn_changes.proofs.revision.second_of.Goals as goal

pub returns-in-Some-clause-err : goal.returns-in-Some-clause-err
returns-in-Some-clause-err c =
    third c.args.stanzas.now c.args.from c.args.first c.args.parent c.in_ok-changes.field-0.changes c.in_ok-changes.field-0.next c.in-Some.field-0 (length c.as_slice.result.now) c.in-Some.is c.in_ok-changes.ensures.ok (c.ascend.ensures.0 c.if-not-ascend.false) (ap length c.as_slice.ensures)
