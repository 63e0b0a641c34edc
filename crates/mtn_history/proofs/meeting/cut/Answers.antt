use Rattle.std.proofs.Common.{◌≡◌, Some, [], sym, subst}
use Rattle.std.specs.Prelude.{slice_get}
use Rattle.mtn_history.specs.Rosters.{EndsAt, IsPathDown, places}
use Rattle.mtn_history.proofs.RosterLemmas.{split_end}
use Rattle.mtn_history.proofs.meeting.cut.Goals as goal

pub returns-clause-parts : goal.returns-clause-parts
returns-clause-parts c = λ k is.
    let found = subst (λ l. slice_get (places c.args.left l) c.in-Some.place ≡ Some c.args.at) c.deref.ensures.value c.in-Some.ensures.found in
    let two = split_end k c.args.left c.args.at c.in-Some.place c.args.ours.records.items c.args.ours.end is found in
    (subst (λ l. IsPathDown k c.args.left l c.args.at) (sym c.in_ok-lower.ensures.items) two.0, subst (λ l. EndsAt k c.args.at c.args.at [] l c.args.ours.end) (sym c.in_ok-lower.ensures.tail) two.1)
