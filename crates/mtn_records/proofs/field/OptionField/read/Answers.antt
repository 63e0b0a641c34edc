-- Bytes that begin with no flag begin with no option.
use Rattle.std.proofs.Common.{rules}
use Rattle.mtn_records.proofs.Reading.{option_none}
use Rattle.mtn_records.proofs.field.OptionField.read.Goals as goal

pub returns-in_err-is_there-clause-bad : goal.returns-in_err-is_there-clause-bad
returns-in_err-is_there-clause-bad g c is = option_none g.A.Field.text g.A.Field.form c.args.bytes.now (c.in_err-is_there.ensures.bad (search rules))
