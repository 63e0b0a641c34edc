use Rattle.std.proofs.Common.{◌∷◌, []}
use Rattle.mtn_basic_io.specs.declared.stanza.Value.TheVariants.{Text}
use Rattle.mtn_basic_io.proofs.Kept.{front_trans}
use Rattle.mtn_basic_io.proofs.Written.{last_value, line_done}
use Rattle.mtn_basic_io.proofs.writing.write_text_line.Goals as goal

pub returns-in_err-write_symbol-clause-kept : goal.returns-in_err-write_symbol-clause-kept
returns-in_err-write_symbol-clause-kept c = c.in_err-write_symbol.ensures.kept

pub returns-in_err-write_spaced-clause-kept : goal.returns-in_err-write_spaced-clause-kept
returns-in_err-write_spaced-clause-kept c = front_trans c.in_ok-write_symbol.ensures.kept c.in_err-write_spaced.ensures.kept

pub returns-in_err-put-clause-kept : goal.returns-in_err-put-clause-kept
returns-in_err-put-clause-kept c = front_trans c.in_ok-write_symbol.ensures.kept (front_trans c.in_ok-write_spaced.ensures.kept c.in_err-put.ensures.kept)

pub returns-clause-kept : goal.returns-clause-kept
returns-clause-kept c = front_trans c.in_ok-write_symbol.ensures.kept (front_trans c.in_ok-write_spaced.ensures.kept c.in_ok-put.ensures.kept)

pub returns-clause-ok : goal.returns-clause-ok
returns-clause-ok c =
    line_done c.args.column (record { symbol = c.args.symbol.now; values = Text c.args.text.now ∷ [] }) _ _ _ _ c.in_ok-write_symbol.ensures.ok
    (last_value _ _ _ c.in_ok-write_spaced.ensures.ok) c.in_ok-put.ensures.ok
