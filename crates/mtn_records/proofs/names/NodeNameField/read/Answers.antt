-- A name is the pair of its parts.
use Rattle.std.proofs.Common.{rules}
use Rattle.mtn_records.proofs.names.NodeNameField.read.Goals as goal

pub returns-in_err-birth-clause-bad : goal.returns-in_err-birth-clause-bad
returns-in_err-birth-clause-bad c is v r form e = c.in_err-birth.ensures.bad (search rules) (v.birth, v.path) r form e
