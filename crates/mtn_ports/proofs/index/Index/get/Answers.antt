use Rattle.std.proofs.Common.{sym, ap, ◌∙◌}
use Rattle.mtn_ports.specs.Newest.{place_of}
use Rattle.mtn_ports.proofs.PlaceLemmas.{map_at_lent}
use Rattle.mtn_ports.proofs.index.Index.get.Goals as goal

pub returns-in-Some : goal.returns-in-Some
returns-in-Some c =
    let at = map_at_lent c.deref.result.now c.args.self.now.tables.items c.from.result c.args.table c.in-Some.places.now c.deref.ensures.value c.from.ensures c.in-Some.ensures.lookup.0 c.in-Some.ensures.lookup.1 in
    c.copied.ensures ∙ c.get-in-Some.ensures.value ∙ sym (ap (λ o. place_of o c.args.key.now) at)
