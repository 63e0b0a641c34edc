-- What is done with what is said of a revision, in the words of what is done without it.
use Rattle.std.specs.Prelude.{◌≡◌, ◌≢◌}
use Rattle.mtn_base.specs.declared.id.Id.{Id}
use Rattle.mtn_model.specs.Outcome.{Outcome}
use Rattle.mtn_model.specs.State.{State}
use Rattle.mtn_model.specs.declared.status.Status.TheVariants as status
use Rattle.mtn_step.specs.Certifying.{said_certs, said_refusal, with_certs}
use Rattle.mtn_step.specs.Step.{id_line, unless}
use Rattle.mtn_step.specs.declared.call.Said.{Said}

-- Where the one outcome is Ok, what is said of this revision is held besides, or the first value that is too long is refused; any
-- other outcome is the same.
pub record IsSaidToo (said : Said) (id : Id) (s : State) (without o : Outcome) : Type 0 where
  pub fails : without.status ≢ status.Ok → o ≡ without
  pub answers : without.status ≡ status.Ok → without.output ≡ id_line id.0
  pub holds : without.status ≡ status.Ok → o ≡ unless (said_refusal said) s (with_certs without.state (said_certs id said)) without.output
