use Rattle.std.proofs.Common.{rules}
use Rattle.mtn_history.proofs.MeetingLemmas.{deltas_on}
use Rattle.mtn_history.proofs.meeting.on_meeting.Goals as goal

pub returns-in_err-base-clause-bad : goal.returns-in_err-base-clause-bad
returns-in_err-base-clause-bad c = λ is k i down at. c.in_err-base.ensures.bad (search rules) k c.args.at (c.in_ok-upper.ensures.parts k down).1

pub returns-clause-both : goal.returns-clause-both
returns-clause-both c = λ k right down path.
    let parts = c.in_ok-upper.ensures.parts k down in
    let base = c.in_ok-base.ensures.right k c.args.at parts.1 in
    (deltas_on k c.args.left c.args.at c.in_ok-upper.upper.items c.in_ok-base.base c.in_ok-copy.copy c.in_ok-copy.ensures.0 parts.0 base, deltas_on k right c.args.at c.args.theirs.items c.in_ok-base.base c.in_ok-copy.base c.in_ok-copy.ensures.1 path base)
