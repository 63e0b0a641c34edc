-- Entries that keep their numbers are those that are due.
use Rattle.mtn_marking.specs.Marking.{MarkedTree}
use Rattle.mtn_put_revision.specs.Keeping.{IsWhole}
use Rattle.mtn_records.specs.declared.record.RosterRecord.{RosterRecord}
use Rattle.mtn_records.specs.declared.record.RosterRecord.TheVariants.{Whole, Delta}
use Rattle.mtn_roster_deltas.specs.Numbering.{shown}
use Rattle.mtn_check_pieces.specs.Verdict.{IsWholeOf}
use Rattle.mtn_check_records.proofs.Known.{due_known}
use Rattle.mtn_check_records.proofs.numbers.numbers_due.Goals as goal

is_whole : (r : RosterRecord) (t : MarkedTree) → IsWholeOf r t → IsWhole r
is_whole (Whole entries) t is = tt
is_whole (Delta base depth gone changed) t is = is

pub entries_in-requires : goal.entries_in-requires
entries_in-requires c = is_whole c.args.held.now c.args.stored.now c.requires.spelled

pub returns-then-keeps_numbers-clause-numbered : goal.returns-then-keeps_numbers-clause-numbered
returns-then-keeps_numbers-clause-numbered c =
    due_known c.args.held.now (shown c.args.known.now) c.args.stored.now c.args.next c.in_ok-entries.entries c.requires.spelled
    c.in_ok-entries.ensures (c.keeps_numbers.ensures c.if-keeps_numbers.true)
