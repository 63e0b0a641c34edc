-- The names are apart.
use Rattle.std.proofs.Common.{◌≡◌, ◌<◌, length, rules, refl, sym, get_or}
use Rattle.std.proofs.lemmas.Option.{slice_get_read}
use Rattle.mtn_roster.proofs.Near.{named_there}
use Rattle.mtn_roster.proofs.sane.place_above.Goals as goal

pub returns-then-same-clause-entry : goal.returns-then-same-clause-entry
returns-then-same-clause-entry c =
    let t = c.args.entries.now in
    let e = c.in_ok-get.field-0.now in
    let low : c.loop.at < length t = search rules in
    let read : e ≡ get_or t c.loop.at e = search rules in
    named_there t c.requires.rising c.loop.at e c.args.name.now (slice_get_read t (length t) c.loop.at e refl low read) (sym c.if-same.ensures)
