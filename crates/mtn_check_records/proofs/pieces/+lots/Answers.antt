-- The answers of the first lot and of the others are those of the whole.
use Rattle.std.proofs.Common.{◌∙◌, sym}
use Rattle.mtn_check_records.proofs.Answers.{both_answered}
use Rattle.mtn_check_records.proofs.pieces.+lots.Goals as goal

pub returns : goal.returns
returns g t c =
    let f = g.I.Ident.meaning c.args.ident.now in
    both_answered f _ _ _ _ _ _ _ _ _ c.split_at.ensures.by_index.0 c.split_at-2.ensures.by_index.0 c.in_ok-append.ensures.items (c.split_at.ensures.front_len ∙ sym c.split_at-2.ensures.front_len)
    (record { len = c.in_ok-answers.ensures.len; each = c.in_ok-answers.ensures.answers }) c.in_ok-more.ensures
