use Rattle.std.proofs.Common.{map, ap, ◌∙◌}
use Rattle.std.proofs.lemmas.List.{take_all}
use Rattle.mtn_base.specs.Hex.{id_of}
use Rattle.mtn_ports.specs.Ident.{toy}
use Rattle.mtn_ports.proofs.Mapped.{mapped_more}
use Rattle.mtn_ports.proofs.ident.toy_ids.Goals as goal

pub loop-text-preserved : goal.loop-text-preserved
loop-text-preserved c =
    mapped_more (λ text. id_of (toy text)) c.args.texts.now c.loop-text.text-index c.text-item.result c.toy_id.result c.loop-text.ids.items c.push.new.self.items c.loop-text-test.true c.text-item.is
    (ap id_of (c.toy_id.ensures ∙ ap toy c.as_slice.ensures)) c.loop-text.invariant c.in_ok-push.ensures.items

pub returns : goal.returns
returns c = c.loop-text.invariant ∙ ap (map (λ text. id_of (toy text))) (take_all c.loop-text.text-index c.args.texts.now c.loop-text-test.false)
