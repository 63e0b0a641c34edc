use Rattle.mtn_merge.specs.Births.{number_in}
use Rattle.mtn_merge.proofs.UnbornLemmas.{missed}
use Rattle.mtn_merge.proofs.births.unborn.Goals as goal

pub returns-clause-left : goal.returns-clause-left
returns-clause-left c = λ n e h.
    missed c.push_decided.new.numbers.items c.sort_unstable.new.self.items c.deref.result.now c.sort_unstable.ensures.permutation c.deref.ensures.value c.least_missing.result c.least_missing.ensures c.id_with.result n.birth c.id_with.ensures
    (c.in_ok-push_decided.ensures.keeps (number_in n.birth) (c.in_ok-push_births-2.ensures.keeps (number_in n.birth) (c.in_ok-push_births.ensures.has n e h)))

pub returns-clause-right : goal.returns-clause-right
returns-clause-right c = λ n e h.
    missed c.push_decided.new.numbers.items c.sort_unstable.new.self.items c.deref.result.now c.sort_unstable.ensures.permutation c.deref.ensures.value c.least_missing.result c.least_missing.ensures c.id_with.result n.birth c.id_with.ensures
    (c.in_ok-push_decided.ensures.keeps (number_in n.birth) (c.in_ok-push_births-2.ensures.has n e h))

pub returns-clause-nodes : goal.returns-clause-nodes
returns-clause-nodes c = λ n d h.
    missed c.push_decided.new.numbers.items c.sort_unstable.new.self.items c.deref.result.now c.sort_unstable.ensures.permutation c.deref.ensures.value c.least_missing.result c.least_missing.ensures c.id_with.result n.birth c.id_with.ensures
    (c.in_ok-push_decided.ensures.has n d h)
