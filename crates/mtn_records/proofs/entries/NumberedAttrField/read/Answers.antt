-- An attribute is the tuple of its parts.
use Rattle.std.proofs.Common.{rules}
use Rattle.mtn_records.specs.EntriesApart.{attr_parts}
use Rattle.mtn_records.proofs.entries.NumberedAttrField.read.Goals as goal

pub returns-in_err-key-clause-bad : goal.returns-in_err-key-clause-bad
returns-in_err-key-clause-bad c is v r form e = c.in_err-key.ensures.bad (search rules) (attr_parts v) r form e
