-- What was found of the positions, in words of the stretch.
use Rattle.std.proofs.Common.{◌∙◌, length, refl, sym, ap}
use Rattle.std.proofs.lemmas.Result.{IfOk-at_ok}
use Rattle.mtn_check_records.specs.Fitting.{AnswersAll}
use Rattle.mtn_check_walk.proofs.Stretches.{judged}
use Rattle.mtn_check_walk.proofs.judging.tell.Goals as goal

pub found_in-requires-clause-answers : goal.found_in-requires-clause-answers
found_in-requires-clause-answers g c =
    let f = g.I.Ident.meaning c.args.ident.now in
    let s = c.args.stretch.now in
    let all = IfOk-at_ok (λ v. AnswersAll f s.positions.items s.jobs.items v.items) c.in_ok-answers.was c.requires.answers in
    ap length c.deref-3.ensures.value ∙ all.len ∙ sym (ap length c.deref-2.ensures.value)

pub returns : goal.returns
returns g c =
    let f = g.I.Ident.meaning c.args.ident.now in
    let s = c.args.stretch.now in
    let all = IfOk-at_ok (λ v. AnswersAll f s.positions.items s.jobs.items v.items) c.in_ok-answers.was c.requires.answers in
    judged f s s.positions.items c.deref.result.now s.jobs.items c.deref-2.result.now c.in_ok-answers.answers.items c.deref-3.result.now c.found_in.result refl c.deref.ensures.value refl c.deref-2.ensures.value c.deref-3.ensures.value
    all.each c.found_in.ensures.within c.found_in.ensures.sound c.found_in.ensures.shown c.found_in.ensures.failed
