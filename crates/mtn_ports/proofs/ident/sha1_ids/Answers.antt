use Rattle.std.proofs.Common.{map, ap, ◌∙◌}
use Rattle.std.proofs.lemmas.List.{take_all}
use Rattle.mtn_base.specs.Hex.{id_of}
use Rattle.sha1.specs.Sha1.{sha1}
use Rattle.mtn_ports.proofs.Mapped.{mapped_more}
use Rattle.mtn_ports.proofs.ident.sha1_ids.Goals as goal

pub loop-text-preserved : goal.loop-text-preserved
loop-text-preserved c =
    mapped_more (λ text. id_of (sha1 text)) c.args.texts.now c.loop-text.text-index c.text-item.result _ c.loop-text.ids.items c.push.new.self.items c.loop-text-test.true c.text-item.is
    (ap id_of (c.digest.ensures ∙ ap sha1 c.as_slice.ensures)) c.loop-text.invariant c.in_ok-push.ensures.items

pub returns : goal.returns
returns c = c.loop-text.invariant ∙ ap (map (λ text. id_of (sha1 text))) (take_all c.loop-text.text-index c.args.texts.now c.loop-text-test.false)
