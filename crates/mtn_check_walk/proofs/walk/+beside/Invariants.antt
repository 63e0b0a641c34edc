use Rattle.mtn_check_walk.proofs.walk.+beside.Given as goal

abbrev pub decreases-join_mut+arg3 : goal.decreases-join_mut+arg3
decreases-join_mut+arg3 g l = l.rest.runs

abbrev pub decreases-judge_beside : goal.decreases-judge_beside
decreases-judge_beside g l = l.shares.runs
