use Rattle.std.proofs.Common.{◌++◌, [], ◌∷◌}
use Rattle.std.specs.List.{flat_map}
use Rattle.mtn_base.specs.Quoted.{escaped_byte}
use Rattle.mtn_basic_io.specs.Spelling.{value_text}
use Rattle.mtn_basic_io.proofs.Kept.{front_trans}
use Rattle.mtn_basic_io.proofs.Written.{two}
use Rattle.mtn_basic_io.proofs.writing.write_text.Goals as goal

pub returns-clause-ok : goal.returns-clause-ok
unfolding value_text
returns-clause-ok c =
    two _ _ _ (34 ∷ flat_map escaped_byte c.args.text.now) (34 ∷ []) (two _ _ _ (34 ∷ []) _ c.in_ok-put.ensures.ok c.in_ok-write_escaped.ensures.ok) c.in_ok-put-2.ensures.ok

pub returns-in_err-put-clause-kept : goal.returns-in_err-put-clause-kept
returns-in_err-put-clause-kept c = c.in_err-put.ensures.kept

pub returns-in_err-write_escaped-clause-kept : goal.returns-in_err-write_escaped-clause-kept
returns-in_err-write_escaped-clause-kept c = front_trans c.in_ok-put.ensures.kept c.in_err-write_escaped.ensures.kept

pub returns-in_err-put-2-clause-kept : goal.returns-in_err-put-2-clause-kept
returns-in_err-put-2-clause-kept c = front_trans c.in_ok-put.ensures.kept (front_trans c.in_ok-write_escaped.ensures.kept c.in_err-put-2.ensures.kept)

pub returns-clause-kept : goal.returns-clause-kept
returns-clause-kept c = front_trans c.in_ok-put.ensures.kept (front_trans c.in_ok-write_escaped.ensures.kept c.in_ok-put-2.ensures.kept)
