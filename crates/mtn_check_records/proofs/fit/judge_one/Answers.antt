-- A job that differs agrees behind no front.
use Rattle.std.proofs.Common.{subst}
use Rattle.mtn_check_pieces.specs.declared.job.Verdict.{Verdict}
use Rattle.mtn_check_pieces.specs.Verdict.{IsVerdict}
use Rattle.mtn_check_records.proofs.fit.judge_one.Goals as goal

pub returns-in-Differs : goal.returns-in-Differs
returns-in-Differs g c = record { verdict = c.requires; fit = λ d r front walked low at a. subst (λ (v : Verdict). IsVerdict c.args.job.now v) c.in-Differs.is c.requires a }
