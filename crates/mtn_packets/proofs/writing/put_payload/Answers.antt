use Rattle.std.proofs.Common.{◌≡◌, ◌∙◌, ◌++◌, ◌<◌, List, ℕ, length, ap, rules}
use Rattle.mtn_packets.proofs.Lines.{payload_empty, payload_done}
use Rattle.mtn_packets.proofs.writing.put_payload.Goals as goal

pub returns-then-is_empty-clause-ok : goal.returns-then-is_empty-clause-ok
returns-then-is_empty-clause-ok c =
    let none : length c.args.bytes.now ≡ 0 = search rules in
    payload_empty c.args.bytes.now c.args.out.now.items c.put_value.new.out.items none c.in_ok-put_value.ensures.ok

pub returns-clause-ok : goal.returns-clause-ok
returns-clause-ok c =
    let some : 0 < length c.args.bytes.now = search rules in
    payload_done c.args.bytes.now c.args.out.now.items c.put_value.new.out.items c.put_all.new.out.items some c.in_ok-put_value.ensures.ok
    (c.in_ok-put_all.ensures.ok ∙ ap (λ (t : List ℕ). c.put_value.new.out.items ++ t) c.as_slice.ensures)
