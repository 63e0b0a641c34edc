use Rattle.std.proofs.Common.{◌≡◌, map}
use Rattle.mtn_frame.specs.Payload.{takes_last}
use Rattle.mtn_frame.specs.Script.{job_of}
use Rattle.mtn_cli.proofs.script.jobs_of_requests.Given as goal

abbrev pub invariant-loop-request : goal.invariant-loop-request
invariant-loop-request l = l.jobs ≡ map (job_of takes_last) l.yielded
