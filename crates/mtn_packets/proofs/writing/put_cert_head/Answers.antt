use Rattle.std.proofs.Common.{◌∙◌, List, ℕ, ◌++◌, ap}
use Rattle.std.specs.Prelude.{codes}
use Rattle.hex.specs.Hex.{encode_lower}
use Rattle.mtn_packets.specs.Printed.{key_text}
use Rattle.mtn_packets.proofs.Kept.{front_trans, three_lines}
use Rattle.mtn_packets.proofs.writing.put_cert_head.Goals as goal

pub returns-clause-ok : goal.returns-clause-ok
returns-clause-ok c =
    let word = c.in_ok-put_all.ensures.ok ∙ ap (λ (t : List ℕ). c.args.out.now.items ++ t) c.as_slice.ensures in
    three_lines c.args.out.now.items c.put_all.new.out.items c.put_id.new.out.items c.put_name.new.out.items c.put_key.new.out.items
    (codes "[rcert ") (encode_lower c.args.revision.now.0) c.args.name.now (key_text c.args.key.now) (codes "       ")
    word c.in_ok-put_id.ensures.ok c.in_ok-put_name.ensures.ok c.in_ok-put_key.ensures.ok

pub returns-in_err-put_all-clause-kept : goal.returns-in_err-put_all-clause-kept
returns-in_err-put_all-clause-kept c = c.in_err-put_all.ensures.kept

pub returns-in_err-put_id-clause-kept : goal.returns-in_err-put_id-clause-kept
returns-in_err-put_id-clause-kept c = front_trans c.in_ok-put_all.ensures.kept c.in_err-put_id.ensures.kept

pub returns-in_err-put_name-clause-kept : goal.returns-in_err-put_name-clause-kept
returns-in_err-put_name-clause-kept c = front_trans c.in_ok-put_all.ensures.kept (front_trans c.in_ok-put_id.ensures.kept c.in_err-put_name.ensures.kept)

pub returns-in_err-put_key-clause-kept : goal.returns-in_err-put_key-clause-kept
returns-in_err-put_key-clause-kept c = front_trans c.in_ok-put_all.ensures.kept (front_trans c.in_ok-put_id.ensures.kept (front_trans c.in_ok-put_name.ensures.kept c.in_err-put_key.ensures.kept))

pub returns-clause-kept : goal.returns-clause-kept
returns-clause-kept c = front_trans c.in_ok-put_all.ensures.kept (front_trans c.in_ok-put_id.ensures.kept (front_trans c.in_ok-put_name.ensures.kept c.in_ok-put_key.ensures.kept))
