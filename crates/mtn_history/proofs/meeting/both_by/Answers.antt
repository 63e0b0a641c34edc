use Rattle.std.proofs.lemmas.Result.{err_from_is_err_and}
use Rattle.mtn_history.proofs.MeetingLemmas.{unmade_left, unmade_right}
use Rattle.mtn_history.proofs.meeting.both_by.Goals as goal

pub returns-in_err-one-clause-unmade : goal.returns-in_err-one-clause-unmade
returns-in_err-one-clause-unmade c = λ k ours theirs.
    let p = err_from_is_err_and c.from_residual-in_err-one.result c.from_residual-in_err-one.ensures.1 in
    rw (p.1, p.2) (unmade_left k c.args.left c.args.right c.in_err-one.field-0.0 (c.in_err-one.ensures.unmade k (c.in_ok-ours.ensures.both k c.args.right ours theirs).0))

pub returns-in_err-other-clause-unmade : goal.returns-in_err-other-clause-unmade
returns-in_err-other-clause-unmade c = λ k ours theirs.
    let p = err_from_is_err_and c.from_residual-in_err-other.result c.from_residual-in_err-other.ensures.1 in
    rw (p.1, p.2) (unmade_right k c.args.left c.args.right c.in_err-other.field-0.0 (c.in_err-other.ensures.unmade k (c.in_ok-ours.ensures.both k c.args.right ours theirs).1))

pub returns-clause-rebuilt : goal.returns-clause-rebuilt
returns-clause-rebuilt c = λ k ours theirs.
    let both = c.in_ok-ours.ensures.both k c.args.right ours theirs in
    (c.in_ok-one.ensures.rebuilt k both.0, c.in_ok-other.ensures.rebuilt k both.1)
