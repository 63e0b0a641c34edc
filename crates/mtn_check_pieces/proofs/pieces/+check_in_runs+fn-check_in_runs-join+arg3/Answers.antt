-- The verdicts of the first run, and behind them those of the others.
use Rattle.std.proofs.Common.{List, ◌++◌, sym, subst}
use Rattle.std.proofs.lemmas.Result.{IfOk-at_ok}
use Rattle.mtn_make_roster.proofs.Told.{ok_then}
use Rattle.mtn_check_pieces.specs.declared.job.CheckJob.{CheckJob}
use Rattle.mtn_check_pieces.specs.declared.job.Verdict.{Verdict}
use Rattle.mtn_check_pieces.specs.Verdict.{IsVerdict, AreVerdicts}
use Rattle.mtn_check_pieces.proofs.Listing.{zip_append}
use Rattle.mtn_check_pieces.proofs.pieces.+check_in_runs+fn-check_in_runs-join+arg3.Goals as goal

pub returns : goal.returns
returns g t c =
    let first = c.split_at.result.0.now in
    let others = c.split_at.result.1.now in
    let front : AreVerdicts first c.in_ok-verdicts.verdicts.items = IfOk-at_ok (λ vs. AreVerdicts first vs.items) {r = c.join-verdicts.result.0} c.in_ok-verdicts.was c.join-verdicts.ensures.first in
    let back : AreVerdicts others c.in_ok-rest.field-0.items = IfOk-at_ok (λ vs. AreVerdicts others vs.items) {r = c.join-verdicts.result.1} c.in_ok-rest.was c.join-verdicts.ensures.second in
    ok_then c.in_a_row.result _ _ (λ vs is.
    subst (λ (js : List CheckJob). AreVerdicts js vs.items) (sym c.split_at.ensures.by_index.0)
    (subst (λ (v : List Verdict). AreVerdicts (first ++ others) v) (sym is)
    (zip_append IsVerdict first others c.in_ok-verdicts.verdicts.items c.in_ok-rest.field-0.items front back))) c.in_a_row.ensures
