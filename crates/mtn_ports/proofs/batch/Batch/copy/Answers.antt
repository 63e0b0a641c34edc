use Rattle.std.proofs.Common.{◌<◌, ◌++◌, ◌∷◌, [], take, length, sym, ap, subst, ◌∙◌}
use Rattle.std.specs.List.{AllByRecursion}
use Rattle.std.proofs.lemmas.List.{take_more, take_all}
use Rattle.mtn_ports.specs.declared.batch.Put.{Put}
use Rattle.mtn_ports.specs.Indexed.{IsKeyed}
use Rattle.mtn_ports.proofs.Keyed.{keyed_at}
use Rattle.mtn_ports.proofs.batch.Batch.copy.Goals as goal

pub add-requires : goal.add-requires
add-requires c =
    subst (λ (p : Put). 0 < length p.key) (sym (c.in_ok-copy.ensures ∙ c.put-item.is))
    (keyed_at c.as_slice-puts.result.now c.loop-put.put-index c.put-item.result (subst (AllByRecursion IsKeyed) (sym c.as_slice-puts.ensures.value) c.as_slice-puts.ensures.keyed) c.loop-put-test.true).key

pub loop-put-preserved : goal.loop-put-preserved
loop-put-preserved c =
    let puts = c.as_slice-puts.result.now in
    c.in_ok-add.ensures.ok
    ∙ ap (λ ps. ps ++ c.in_ok-copy.field-0 ∷ []) c.loop-put.invariant
    ∙ ap (λ p. take c.loop-put.put-index puts ++ p ∷ []) (c.in_ok-copy.ensures ∙ c.put-item.is)
    ∙ sym (take_more puts c.loop-put.put-index c.put-item.result c.loop-put-test.true)

pub returns : goal.returns
returns c = c.loop-put.invariant ∙ take_all c.loop-put.put-index c.as_slice-puts.result.now c.loop-put-test.false ∙ c.as_slice-puts.ensures.value
