-- The entry at the place of a stop.
use Rattle.std.specs.Prelude.{option_map, slice_get, IfOk}
use Rattle.std.proofs.Common.{◌≡◌, Some, sym, ◌∙◌, ap, subst}
use Rattle.std.proofs.lemmas.Option.{slice_get-get_or}
use Rattle.mtn_roster.specs.Tree.{path_of}
use Rattle.mtn_roster.proofs.Along.{at_stop}
use Rattle.mtn_join.proofs.agreement.path_at.Goals as goal

pub returns-in-Some : goal.returns-in-Some
returns-in-Some c =
    let t = c.args.roster.now in
    let s = c.in-Some.stop.now in
    let here : slice_get c.args.stops.now c.args.at ≡ Some s = slice_get-get_or c.args.stops.now c.args.at s c.in-Some.ensures.lookup.3.0 ∙ ap Some (sym c.in-Some.ensures.lookup.1) in
    subst (λ o. IfOk c.path_at.result (λ path. path ≡ option_map (path_of t) o)) (at_stop t c.args.stops.now c.requires c.args.at s here) c.path_at.ensures
