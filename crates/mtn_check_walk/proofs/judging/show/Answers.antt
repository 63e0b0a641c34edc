-- What an answer says of a job that agrees is the damage that is shown.
use Rattle.std.proofs.Common.{◌++◌, ap, ◌∙◌, subst}
use Rattle.mtn_check_pieces.specs.declared.job.CheckJob.{CheckJob}
use Rattle.mtn_check_records.specs.Fitting.{IsFitting}
use Rattle.mtn_history.specs.declared.errors.Damage.TheVariants.{Bad}
use Rattle.mtn_records.specs.Fields.{number_text}
use Rattle.mtn_check_walk.proofs.Stretches.{shown_as, shown_of}
use Rattle.mtn_check_walk.proofs.judging.show.Goals as goal

pub returns-in-OtherText-clause-shown : goal.returns-in-OtherText-clause-shown
returns-in-OtherText-clause-shown c = λ f fitting agrees.
    let x = c.args.position.now in
    let job = c.args.job.now in
    shown_as f x job (λ r. Bad 3 x.entry.id.0 (number_text r ++ job.text)) c.bad_text.result (subst (IsFitting f x job) c.in-OtherText.is fitting) agrees c.bad_text.ensures.damaged

pub returns-in-OtherLog-clause-shown : goal.returns-in-OtherLog-clause-shown
returns-in-OtherLog-clause-shown c = λ f fitting agrees.
    let x = c.args.position.now in
    let job = c.args.job.now in
    shown_as f x job (λ r. Bad 4 (number_text r) x.log.items) c.bad.result (subst (IsFitting f x job) c.in-OtherLog.is fitting) agrees
    (shown_of c.bad.result 4 _ (number_text job.at) _ x.log.items (c.to_be_bytes-at.ensures ∙ ap (λ (j : CheckJob). number_text j.at) c.job.view_is) c.deref.ensures.value c.bad.ensures.damaged)

pub returns-in-OtherRoster-clause-shown : goal.returns-in-OtherRoster-clause-shown
returns-in-OtherRoster-clause-shown c = λ f fitting agrees.
    let x = c.args.position.now in
    let job = c.args.job.now in
    shown_as f x job (λ r. Bad 5 (number_text r) x.roster.items) c.bad-in-OtherRoster.result (subst (IsFitting f x job) c.in-OtherRoster.is fitting) agrees
    (shown_of c.bad-in-OtherRoster.result 5 _ (number_text job.at) _ x.roster.items (c.to_be_bytes-at.ensures ∙ ap (λ (j : CheckJob). number_text j.at) c.job.view_is) c.deref-in-OtherRoster.ensures.value c.bad-in-OtherRoster.ensures.damaged)
