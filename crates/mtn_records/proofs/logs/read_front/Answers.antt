-- A record is the tuple of its parts.
use Rattle.mtn_records.proofs.Recording.{log_by_next}
use Rattle.mtn_records.proofs.logs.read_front.Goals as goal

pub returns-in_default : goal.returns-in_default
returns-in_default c = log_by_next c.args.bytes.now c.in_ok-id.rest.now c.in_ok-id.id c.in_ok-id.ensures c.in_default.ensures
