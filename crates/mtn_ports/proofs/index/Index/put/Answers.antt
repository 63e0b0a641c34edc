use Rattle.std.proofs.Common.{sym, ap, ◌∙◌}
use Rattle.std.proofs.lemmas.Result.{IfOk-weaker}
use Rattle.mtn_ports.specs.Newest.{place_of}
use Rattle.mtn_ports.proofs.PlaceLemmas.{map_at}
use Rattle.mtn_ports.proofs.index.Index.put.Goals as goal

pub returns-clause-older : goal.returns-clause-older
returns-clause-older c =
    let at = map_at c.reach.new.self.tables.items c.from.result c.args.table c.index_mut.result.now c.from.ensures c.in_ok-reach.ensures.room c.index_mut.ensures.value in
    IfOk-weaker c.put_place.result _ _ (λ older is. is ∙ sym (ap (λ o. place_of o c.args.key.now) at) ∙ c.in_ok-reach.ensures.places c.args.table c.args.key.now) c.put_place.ensures.older
