use Rattle.std.proofs.Common.{sym, ap, ◌∙◌}
use Rattle.mtn_frame.specs.declared.script.Job.TheVariants.{Call}
use Rattle.mtn_frame.specs.Payload.{takes_last}
use Rattle.mtn_frame.proofs.WordLemmas.{job_taken}
use Rattle.mtn_cli.proofs.script.job_of_request.Goals as goal

pub returns-in-Some : goal.returns-in-Some
returns-in-Some c =
    ap (λ ws. Call ws c.in-Some.payload) c.from_vec-in-Some.ensures
    ∙ job_taken takes_last c.args.request c.pop.new.self.items c.in-Some.payload
    (ap takes_last (sym c.as_slice.ensures) ∙ sym c.takes_last-takes.ensures ∙ c.if-not-takes.false) (sym c.into_vec-words.ensures ∙ c.in-Some.ensures.items)
