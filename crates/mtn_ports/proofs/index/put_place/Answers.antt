use Rattle.std.proofs.Common.{Some, rules, subst}
use Rattle.mtn_ports.specs.Newest.{SetsUnder}
use Rattle.mtn_ports.proofs.PlaceLemmas.{sets_under, sets_under_vec}
use Rattle.mtn_ports.proofs.index.put_place.Goals as goal

pub returns-in-Some-clause-ok : goal.returns-in-Some-clause-ok
returns-in-Some-clause-ok c =
    sets_under c.args.places.now (c.get_mut.follows.lender c.args.place) c.args.key.now (Some c.args.place) ((c.get_mut.follows.holds c.args.place).3 (search rules))

pub returns-in_ok-insert-in-None-clause-ok : goal.returns-in_ok-insert-in-None-clause-ok
returns-in_ok-insert-in-None-clause-ok c =
    subst (λ m. SetsUnder m c.insert.new.self c.args.key.now (Some c.args.place)) c.get_mut.follows.holds-at-none
    (sets_under_vec c.get_mut.follows.lender-at-none c.insert.new.self c.in_ok-to_vec-in-None.field-0 c.args.key.now (Some c.args.place) (search rules) c.in_ok-insert-in-None.ensures.updates)
