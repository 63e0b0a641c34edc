use Rattle.std.proofs.Common.{Err, ap, arith}
use Rattle.mtn_history.proofs.MeetingLemmas.{met_at}
use Rattle.mtn_history.proofs.RosterLemmas.{path_low}
use Rattle.mtn_history.proofs.meeting.parted.Goals as goal

pub returns-clause-unmade : goal.returns-clause-unmade
returns-clause-unmade c = λ k right ours theirs bad.
    let met = met_at k right c.args.left c.in-Some.at c.args.ours.records.items c.args.theirs.records.items c.args.theirs.end theirs c.in-Some.ensures in
    let low = path_low k right c.in-Some.at c.args.theirs.records.items met.0 in
    (omega (arith, low), c.in-Err.ensures.bad (ap (λ e. Err e) bad) k met.1.0 ours met.1.1)
