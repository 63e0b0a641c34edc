use Rattle.std.proofs.Common.{sym, option_map, subst}
use Rattle.std.specs.Result.{IfOk}
use Rattle.mtn_ports.specs.Kept.{LeastOf}
use Rattle.mtn_ports.specs.Newest.{place_of}
use Rattle.mtn_ports.proofs.PlaceLemmas.{map_at_lent}
use Rattle.mtn_ports.proofs.index.Index.least_above.Goals as goal

pub returns-in-Some : goal.returns-in-Some
returns-in-Some c =
    let at = map_at_lent c.deref.result.now c.args.self.now.tables.items c.from.result c.args.table c.in-Some.places.now c.deref.ensures.value c.from.ensures c.in-Some.ensures.lookup.0 c.in-Some.ensures.lookup.1 in
    subst (λ o. IfOk c.first_above.result (λ found. LeastOf (place_of o) c.args.after.now (option_map (λ key. key.now) found))) (sym at) c.first_above.ensures
