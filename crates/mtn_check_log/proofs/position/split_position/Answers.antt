use Rattle.std.proofs.Common.{arith}
use Rattle.mtn_records.proofs.Reading.{number_begins}
use Rattle.mtn_check_log.proofs.position.split_position.Goals as goal

pub returns : goal.returns
returns c =
    let p = c.in_ok-number.ensures.cases in
    number_begins c.args.bytes.now c.in_ok-number.number.now c.in_ok-number.rest.now c.from_be_bytes.result (λ i. omega (arith, c.type_inv.bytes i)) p.2 p.0 p.1 c.from_be_bytes.ensures c.from_be_bytes.type_inv
