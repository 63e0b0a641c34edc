use Rattle.mtn_basic_io.proofs.Kept.{front_more, front_trans}
use Rattle.mtn_basic_io.proofs.writing.write_spaces.Goals as goal

pub returns-in_err-put-clause-kept : goal.returns-in_err-put-clause-kept
returns-in_err-put-clause-kept c = front_trans (front_more _ _ _ c.loop.invariant) c.in_err-put.ensures.kept

pub returns-clause-kept : goal.returns-clause-kept
returns-clause-kept c = front_more _ _ _ c.loop.invariant
