-- What was read is the only record that can be there.
use Rattle.std.proofs.Common.{sym, subst, refl}
use Rattle.mtn_records.specs.Bounds.{IsLogWithin}
use Rattle.mtn_records.specs.Records.{log_text, IsLogRecord}
use Rattle.mtn_records.specs.RecordsApart.{log_apart}
use Rattle.mtn_records.proofs.Recording.{only_spells, not_empty}
use Rattle.mtn_records.proofs.logs.read_log.Goals as goal
use Rattle.mtn_records.proofs.logs.read_log.Goals.{then-not-is_empty-via-then-not-is_empty, then-not-is_empty-via-else-not-is_empty+then-not-are_below}

pub returns-then-not-is_empty-clause-bad : goal.returns-then-not-is_empty-clause-bad
returns-then-not-is_empty-clause-bad c = (
  refl,
  λ v there.
      let same = only_spells log_text IsLogRecord c.args.body.now log_apart c.in-Some.rest.now c.in-Some.log c.in-Some.ensures v there.formed there.whole in
      elim c.then-not-is_empty.branch [
        | then-not-is_empty-via-then-not-is_empty w ↦ not_empty c.in-Some.rest.now c.is_empty.result c.is_empty.ensures w.if-not-is_empty.true same.1
        | then-not-is_empty-via-else-not-is_empty+then-not-are_below w ↦
            let within = w.are_below.ensures.1 (subst (IsLogWithin c.args.at) (sym same.0) there.within) in
            absurd (cc (within, w.if-not-are_below.true))
      ],
)

pub returns-clause-only : goal.returns-clause-only
returns-clause-only c other there =
    sym (only_spells log_text IsLogRecord c.args.body.now log_apart c.in-Some.rest.now c.in-Some.log c.in-Some.ensures other there.formed there.whole).0
