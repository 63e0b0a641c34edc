use Rattle.std.proofs.Common.{◌≡◌, ◌∙◌, ℕ, List, take, sym, ap, subst, arith}
use Rattle.std.specs.List.{All, flat_map}
use Rattle.std.proofs.lemmas.List.{take_all}
use Rattle.std.proofs.lemmas.Result.{MatchResult-weaker}
use Rattle.mtn_packets.specs.declared.packet.Packet.{Packet}
use Rattle.mtn_packets.specs.Packets.{ArePackets}
use Rattle.mtn_packets.specs.Printed.{printed, IsOfBytes}
use Rattle.mtn_packets.proofs.Again.{are_printed, all_more, written_more}
use Rattle.mtn_packets.proofs.laws.read_back.Goals as goal

pub loop-packet-preserved : goal.loop-packet-preserved
loop-packet-preserved c =
    let ps = c.args.packets.now in
    let i = c.loop-packet.packet-index in
    record {
      written = written_more ps i c.packet-item.result c.loop-packet.text.items c.write.new.out.items c.loop-packet-test.true c.packet-item.is c.loop-packet.invariant.written c.in_ok-write.ensures.ok;
      lawful = all_more IsOfBytes ps i c.packet-item.result c.loop-packet-test.true c.packet-item.is c.loop-packet.invariant.lawful c.in_ok-write.ensures.lawful;
    }

-- the text is those packets
written : (c : goal.After-drop-text-2) → ArePackets c.args.packets.now c.as_slice.result.now
written c =
    let ps = c.args.packets.now in
    let whole : take c.loop-packet.packet-index ps ≡ ps = take_all c.loop-packet.packet-index ps (omega arith) in
    let text : c.as_slice.result.now ≡ flat_map printed ps = c.as_slice.ensures.value ∙ c.loop-packet.invariant.written ∙ ap (flat_map printed) whole in
    subst (λ (t : List ℕ). ArePackets ps t) (sym text) (are_printed ps c.requires (subst (λ (qs : List Packet). All IsOfBytes qs) whole c.loop-packet.invariant.lawful))

pub returns-clause-same : goal.returns-clause-same
returns-clause-same c = MatchResult-weaker c.read_all.result (c.read_all.ensures.only c.args.packets.now (written c)) (λ v same. same) (λ e none. tt)

pub returns-clause-memory : goal.returns-clause-memory
returns-clause-memory c = MatchResult-weaker c.read_all.result (c.read_all.ensures.only c.args.packets.now (written c)) (λ v same. tt) (λ e none. none)
