use Rattle.mtn_basic_io.proofs.Kept.{front_trans}
use Rattle.mtn_basic_io.proofs.writing.write_line.Goals as goal

pub returns-in_err-write_symbol-clause-kept : goal.returns-in_err-write_symbol-clause-kept
returns-in_err-write_symbol-clause-kept c = c.in_err-write_symbol.ensures.kept

pub returns-in_err-write_values-clause-kept : goal.returns-in_err-write_values-clause-kept
returns-in_err-write_values-clause-kept c = front_trans c.in_ok-write_symbol.ensures.kept c.in_err-write_values.ensures.kept

pub returns-in_err-put-clause-kept : goal.returns-in_err-put-clause-kept
returns-in_err-put-clause-kept c = front_trans c.in_ok-write_symbol.ensures.kept (front_trans c.in_ok-write_values.ensures.kept c.in_err-put.ensures.kept)

pub returns-clause-kept : goal.returns-clause-kept
returns-clause-kept c = front_trans c.in_ok-write_symbol.ensures.kept (front_trans c.in_ok-write_values.ensures.kept c.in_ok-put.ensures.kept)
