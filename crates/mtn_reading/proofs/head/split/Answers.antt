use Rattle.std.proofs.Common.{List, [], ◌∷◌, ◌++◌, sym, ap, ◌∙◌, subst, append_assoc}
use Rattle.mtn_packets.specs.declared.packet.Packet.{Packet}
use Rattle.mtn_reading.specs.Heads.{AreHeads}
use Rattle.mtn_reading.specs.declared.head.Head.{Head}
use Rattle.mtn_reading.proofs.HeadLemmas.{one_more}
use Rattle.mtn_reading.proofs.head.split.Goals as goal

pub loop-packet-preserved : goal.loop-packet-preserved
loop-packet-preserved c =
    let inv = c.loop-packet.invariant in
    let steps = c.in-Some.ensures.steps in (
      inv.0 ++ c.in-Some.packet ∷ [],
      subst (λ (hs : List Head). AreHeads c.head_of.new.payloads.items hs (inv.0 ++ c.in-Some.packet ∷ [])) (sym c.in_ok-push.ensures.items)
          (one_more c.loop-packet.payloads.items c.head_of.new.payloads.items c.loop-packet.heads.items inv.0 c.in-Some.packet c.in_ok-head.head inv.1 c.in_ok-head.ensures),
      inv.2 ∙ ap (λ (r : List Packet). inv.0 ++ r) steps.0 ∙ sym (append_assoc inv.0 (c.in-Some.packet ∷ []) c.next.new.self.rest.items),
    )
