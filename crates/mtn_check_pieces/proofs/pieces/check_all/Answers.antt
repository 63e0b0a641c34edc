-- One more verdict each time.
use Rattle.mtn_marking.proofs.Zips.{zip_next}
use Rattle.mtn_check_pieces.specs.Verdict.{IsVerdict}
use Rattle.mtn_check_pieces.proofs.pieces.check_all.Goals as goal

pub loop-job-preserved : goal.loop-job-preserved
loop-job-preserved c =
    zip_next IsVerdict c.args.jobs.now c.loop-job.verdicts.items c.push.new.self.items c.loop-job.job-index c.job-item.result c.in_ok-check_one.field-0
    c.loop-job-test.true c.job-item.is c.loop-job.invariant c.in_ok-check_one.ensures c.in_ok-push.ensures.items
