use Rattle.mtn_make_roster.proofs.Told.{ok_then}
use Rattle.mtn_check_pieces.specs.Verdict.{IsEdgeTree}
use Rattle.mtn_check_pieces.proofs.Answering.{none_at, some_at, merges}
use Rattle.mtn_check_pieces.proofs.trees.merged_tree.Goals as goal

pub returns-in_default : goal.returns-in_default
returns-in_default c = λ t m. none_at (IsEdgeTree c.args.job.now.id c.args.left.now c.args.first.now) c.in_ok-ours.field-0 c.in_default.is c.in_ok-ours.ensures m.first m.first_is

pub returns-in_default-2 : goal.returns-in_default-2
returns-in_default-2 c = λ t m. none_at (IsEdgeTree c.args.job.now.id c.args.right.now c.args.second.now) c.in_ok-theirs.field-0 c.in_default-2.is c.in_ok-theirs.ensures m.second m.second_is

pub returns : goal.returns
returns c =
    let first = some_at (IsEdgeTree c.args.job.now.id c.args.left.now c.args.first.now) c.in_ok-ours.field-0 c.in-Some.ours c.in-Some.is c.in_ok-ours.ensures in
    let second = some_at (IsEdgeTree c.args.job.now.id c.args.right.now c.args.second.now) c.in_ok-theirs.field-0 c.in-Some-2.theirs c.in-Some-2.is c.in_ok-theirs.ensures in
    ok_then c.joining.result _ _ (merges c.args.job.now c.args.left.now c.args.right.now c.args.first.now c.args.second.now c.in-Some.ours c.in-Some-2.theirs first second) c.joining.ensures
