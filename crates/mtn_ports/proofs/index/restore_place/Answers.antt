use Rattle.std.proofs.Common.{Some, None, rules, sym, subst}
use Rattle.mtn_ports.specs.Newest.{SetsUnder}
use Rattle.mtn_ports.proofs.PlaceLemmas.{sets_under}
use Rattle.mtn_ports.proofs.index.restore_place.Goals as goal

pub returns-in-Some-get_mut : goal.returns-in-Some-get_mut
returns-in-Some-get_mut c =
    let place = c.in-Some.place in
    let new = c.get_mut.follows.lender place in
    subst (SetsUnder c.args.places.now new c.args.key.now) (sym c.in-Some.is)
    (sets_under c.args.places.now new c.args.key.now (Some place) ((c.get_mut.follows.holds place).3 (search rules)))

pub returns-in-None : goal.returns-in-None
returns-in-None c =
    subst (SetsUnder c.args.places.now c.remove.new.self c.args.key.now) (sym c.in-None.is)
    (sets_under c.args.places.now c.remove.new.self c.args.key.now None c.remove.ensures.updates)
