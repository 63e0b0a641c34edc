use Rattle.std.proofs.Common.{◌≡◌, ◌∙◌, ◌++◌, List, [], ◌∷◌, ℕ, ap}
use Rattle.hex.specs.Hex.{encode_lower}
use Rattle.mtn_basic_io.specs.Spelling.{value_text}
use Rattle.mtn_basic_io.proofs.Kept.{front_trans}
use Rattle.mtn_basic_io.proofs.Written.{two}
use Rattle.mtn_basic_io.proofs.writing.write_id.Goals as goal

pub returns-clause-ok : goal.returns-clause-ok
unfolding value_text
returns-clause-ok c =
    let digits = ap (λ (l : List ℕ). c.put.new.out.items ++ l) (c.as_slice.ensures ∙ c.write_hex.ensures) in
    two _ _ _ (91 ∷ encode_lower c.args.id.now.0) (93 ∷ []) (two _ _ _ (91 ∷ []) _ c.in_ok-put.ensures.ok (c.in_ok-put_all.ensures.ok ∙ digits)) c.in_ok-put-2.ensures.ok

pub returns-clause-lawful : goal.returns-clause-lawful
returns-clause-lawful c = (c.as_slice-bytes.ensures.count, c.as_slice-bytes.ensures.bytes)

pub returns-in_err-put-clause-kept : goal.returns-in_err-put-clause-kept
returns-in_err-put-clause-kept c = c.in_err-put.ensures.kept

pub returns-in_err-put_all-clause-kept : goal.returns-in_err-put_all-clause-kept
returns-in_err-put_all-clause-kept c = front_trans c.in_ok-put.ensures.kept c.in_err-put_all.ensures.kept

pub returns-in_err-put-2-clause-kept : goal.returns-in_err-put-2-clause-kept
returns-in_err-put-2-clause-kept c = front_trans c.in_ok-put.ensures.kept (front_trans c.in_ok-put_all.ensures.kept c.in_err-put-2.ensures.kept)

pub returns-clause-kept : goal.returns-clause-kept
returns-clause-kept c = front_trans c.in_ok-put.ensures.kept (front_trans c.in_ok-put_all.ensures.kept c.in_ok-put-2.ensures.kept)
