use Rattle.std.proofs.Common.{◌∙◌, sym}
use Rattle.mtn_put_certs.proofs.NamedLemmas.{differ, two_keys}
use Rattle.mtn_put_certs.proofs.named.only.Goals as goal

pub returns-then-ne : goal.returns-then-ne
returns-then-ne c =
    two_keys c.args.keys.now c.key-item.result c.in_ok-first.field-0.now (c.loop-key.key-index, c.loop-key-test.true, sym c.key-item.is) (0, c.in_ok-first.ensures.item.3.0, sym c.in_ok-first.ensures.item.1)
    (λ e. differ c.as_slice.result.now c.as_slice-first.result.now c.ne.result c.ne.ensures c.if-ne.true (c.as_slice.ensures ∙ e ∙ sym c.as_slice-first.ensures))
