use Rattle.std.proofs.Common.{ℕ, ◌+◌, List, length, refl, ap, sym, subst, arith}
use Rattle.std.specs.Prelude.{Result}
use Rattle.mtn_base.specs.declared.refusal.PacketWhy.{PacketWhy}
use Rattle.mtn_packets.specs.declared.packet.Packet.{Packet}
use Rattle.mtn_packets.specs.Packets.{ArePackets}
use Rattle.mtn_packets.specs.Faults.{FailsAt}
use Rattle.mtn_packets.specs.Parts.{IsNextPacket}
use Rattle.mtn_packets.proofs.Steps.{cut}
use Rattle.mtn_packets.proofs.Inputs.{IsRead, read_none, read_more, fails_at, all_read, one_list, no_failure}
use Rattle.mtn_packets.proofs.reading.read_all.Goals as goal

pub loop-at-init : goal.loop-at-init
loop-at-init c = subst (λ (ps : List Packet). IsRead c.args.text.now ps c.space_len-at.result) (sym c.new-done.ensures) (read_none c.args.text.now c.space_len-at.result c.space_len-at.ensures.value)

pub loop-at-preserved : goal.loop-at-preserved
loop-at-preserved c =
    let text = c.args.text.now in
    let next = subst (λ (r : Result (Packet × ℕ) PacketWhy). IsNextPacket (cut c.loop-at.at text) r) c.in-Ok.is c.in_ok-packet.ensures in
    subst (λ (ps : List Packet). IsRead text ps (c.loop-at.at + c.in-Ok.len + c.space_len-at-in-loop-at.result)) (sym c.in_ok-push-in-Ok.ensures.ok)
    (read_more text c.loop-at.done c.in-Ok.packet c.loop-at.at c.in-Ok.len c.space_len-at-in-loop-at.result c.loop-at.invariant next.0 next.2 c.space_len-at-in-loop-at.ensures.value)

pub returns-clause-ok : goal.returns-clause-ok
returns-clause-ok c =
    subst (λ (ps : List Packet). ArePackets ps c.args.text.now) (sym c.into_vec.ensures) (all_read c.args.text.now c.loop-at.done c.loop-at.at c.loop-at.invariant (λ lt. omega (arith, c.loop-at-test.false)))

pub returns-clause-only : goal.returns-clause-only
returns-clause-only c packets are = one_list c.into_vec.result.items packets c.args.text.now (returns-clause-ok c) are

failing : (c : goal.After-drop-done-inside-in-Err) → FailsAt c.args.text.now (length c.loop-at.done + 1) c.in-Err.why
failing c =
    let fault = subst (λ (r : Result (Packet × ℕ) PacketWhy). IsNextPacket (cut c.loop-at.at c.args.text.now) r) c.in-Err.is c.in_ok-packet.ensures in
    fails_at c.args.text.now c.loop-at.done c.loop-at.at _ c.in-Err.why c.loop-at.invariant c.loop-at-test.true refl fault

pub returns-in-Err-clause-err : goal.returns-in-Err-clause-err
returns-in-Err-clause-err c =
    subst (λ (n : ℕ). FailsAt c.args.text.now n c.in-Err.why) (ap (λ (ps : List Packet). length ps + 1) (sym c.as_slice.ensures)) (failing c)

pub returns-in-Err-clause-only : goal.returns-in-Err-clause-only
returns-in-Err-clause-only c packets are = absurd (no_failure packets c.args.text.now _ c.in-Err.why are (failing c))
