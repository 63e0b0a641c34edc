-- The answers of the first run, and behind them those of the others.
use Rattle.std.specs.Prelude.{IfOk}
use Rattle.std.proofs.Common.{rules, ◌∙◌, sym}
use Rattle.mtn_check_records.specs.Fitting.{AnswersAll}
use Rattle.mtn_check_walk.proofs.Stretches.{both_parts}
use Rattle.mtn_check_walk.proofs.walk.+beside.Goals as goal

pub returns-clause-answers : goal.returns-clause-answers
returns-clause-answers g t c =
    let f = g.I.Ident.meaning c.args.ident.now in
    let near : IfOk c.join_mut-front.result.0 (λ v. AnswersAll f c.split_at.result.0.now c.split_at-2.result.0.now v.items) = search rules in
    let far : IfOk c.join_mut-front.result.1.0 (λ v. AnswersAll f c.split_at.result.1.now c.split_at-2.result.1.now v.items) = search rules in
    both_parts (λ v. v.items) f _ _ _ _ _ _ _ _ c.in_a_row.result c.split_at.ensures.by_index.0 c.split_at-2.ensures.by_index.0 (c.split_at.ensures.front_len ∙ sym c.split_at-2.ensures.front_len) near far c.in_a_row.ensures
