-- What the second part is read from is what the first one left.
use Rattle.std.proofs.Common.{rules}
use Rattle.mtn_records.proofs.Reading.{pair_none}
use Rattle.mtn_records.proofs.field.Tuple2Field.read.Goals as goal

pub returns-in_err-b-clause-bad : goal.returns-in_err-b-clause-bad
returns-in_err-b-clause-bad g c is =
    pair_none g.A.Field.text g.A.Field.form g.B.Field.text g.B.Field.form c.args.bytes.now c.in_ok-a.rest.now c.in_ok-a.a g.met.A.Field.apart c.in_ok-a.ensures.ok (c.in_err-b.ensures.bad (search rules))
