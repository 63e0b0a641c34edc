use Rattle.mtn_basic_io.proofs.Kept.{front_trans}
use Rattle.mtn_basic_io.proofs.Written.{two}
use Rattle.mtn_basic_io.proofs.writing.write_symbol.Goals as goal

pub returns-clause-ok : goal.returns-clause-ok
returns-clause-ok c = two _ _ _ _ _ c.in_ok-write_spaces.ensures.ok c.in_ok-put_all.ensures.ok

pub returns-in_err-write_spaces-clause-kept : goal.returns-in_err-write_spaces-clause-kept
returns-in_err-write_spaces-clause-kept c = c.in_err-write_spaces.ensures.kept

pub returns-in_err-put_all-clause-kept : goal.returns-in_err-put_all-clause-kept
returns-in_err-put_all-clause-kept c = front_trans c.in_ok-write_spaces.ensures.kept c.in_err-put_all.ensures.kept

pub returns-clause-kept : goal.returns-clause-kept
returns-clause-kept c = front_trans c.in_ok-write_spaces.ensures.kept c.in_ok-put_all.ensures.kept
