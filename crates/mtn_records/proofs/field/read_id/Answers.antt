use Rattle.mtn_records.proofs.Reading.{id_begins}
use Rattle.mtn_records.proofs.field.read_id.Goals as goal

pub returns : goal.returns
returns c =
    let p = c.in_ok-id.ensures.cases in
    id_begins c.args.bytes.now c.in_ok-id.id.now c.in_ok-id.rest.now p.2 p.0 p.1
