use Rattle.std.proofs.Common.{[], ◌∷◌}
use Rattle.mtn_basic_io.proofs.Kept.{front_trans}
use Rattle.mtn_basic_io.proofs.Written.{two}
use Rattle.mtn_basic_io.proofs.writing.write_spaced.Goals as goal

pub returns-clause-ok : goal.returns-clause-ok
returns-clause-ok c = two _ _ _ (32 ∷ []) _ c.in_ok-put.ensures.ok c.in_ok-write_text.ensures.ok

pub returns-in_err-put-clause-kept : goal.returns-in_err-put-clause-kept
returns-in_err-put-clause-kept c = c.in_err-put.ensures.kept

pub returns-in_err-write_text-clause-kept : goal.returns-in_err-write_text-clause-kept
returns-in_err-write_text-clause-kept c = front_trans c.in_ok-put.ensures.kept c.in_err-write_text.ensures.kept

pub returns-clause-kept : goal.returns-clause-kept
returns-clause-kept c = front_trans c.in_ok-put.ensures.kept c.in_ok-write_text.ensures.kept
