-- A record is told by its flag, and a delta is the tuple of its parts.
use Rattle.std.proofs.Common.{rules}
use Rattle.mtn_records.proofs.Recording.{roster_by_flag, roster_by_delta}
use Rattle.mtn_records.proofs.rosters.RosterRecordField.read.Goals as goal

pub returns-in_err-is_delta-clause-bad : goal.returns-in_err-is_delta-clause-bad
returns-in_err-is_delta-clause-bad c is = roster_by_flag c.args.bytes.now (c.in_err-is_delta.ensures.bad (search rules))

pub returns-in_err-base-clause-bad : goal.returns-in_err-base-clause-bad
returns-in_err-base-clause-bad c is = roster_by_delta c.args.bytes.now c.in_ok-is_delta.rest.now (search rules) (c.in_err-base.ensures.bad (search rules))
