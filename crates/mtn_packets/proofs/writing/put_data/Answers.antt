use Rattle.hex.specs.Hex.{encode_lower}
use Rattle.mtn_packets.specs.Printed.{body_text}
use Rattle.mtn_packets.proofs.Kept.{front_trans, three}
use Rattle.mtn_packets.proofs.writing.put_data.Goals as goal

pub returns-in_err-put_all-clause-kept : goal.returns-in_err-put_all-clause-kept
returns-in_err-put_all-clause-kept c = c.in_err-put_all.ensures.kept

pub returns-in_err-put_id-clause-kept : goal.returns-in_err-put_id-clause-kept
returns-in_err-put_id-clause-kept c = front_trans c.in_ok-put_all.ensures.kept c.in_err-put_id.ensures.kept

pub returns-in_err-put_body-clause-kept : goal.returns-in_err-put_body-clause-kept
returns-in_err-put_body-clause-kept c = front_trans c.in_ok-put_all.ensures.kept (front_trans c.in_ok-put_id.ensures.kept c.in_err-put_body.ensures.kept)

pub returns-clause-kept : goal.returns-clause-kept
returns-clause-kept c = front_trans c.in_ok-put_all.ensures.kept (front_trans c.in_ok-put_id.ensures.kept c.in_ok-put_body.ensures.kept)

pub returns-clause-ok : goal.returns-clause-ok
returns-clause-ok c =
    three c.args.out.now.items c.put_all.new.out.items c.put_id.new.out.items c.put_body.new.out.items c.args.word.now (encode_lower c.args.id.now.0) (body_text c.args.bytes.now)
    c.in_ok-put_all.ensures.ok c.in_ok-put_id.ensures.ok c.in_ok-put_body.ensures.ok
