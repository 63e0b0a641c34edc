use Rattle.std.specs.List.{list_any}
use Rattle.std.proofs.Common.{◌≡◌, true, sym, ap, ◌∙◌, refl, length, arith}
use Rattle.std.specs.Vec.Iter.{into_iter_items, into_iter_len}
use Rattle.mtn_cli.specs.Step.{Step}
use Rattle.mtn_cli.specs.Store.{IsFirstLine, IsLine, IsOldStore, ShowsDamage, bounds, changes, is_checking, is_merging, is_spelled, job_checking, job_migrating, job_reading}
use Rattle.mtn_history.specs.Memory.{Knows}
use Rattle.mtn_old_stores.specs.Stores.{StandsIn}
use Rattle.mtn_frame.specs.Script.{Does, BoundsJob, ChangesJob}
use Rattle.mtn_frame.specs.Works.{is_spelled as job_spelled, is_merging as job_merging, is_vouching as job_vouching}
use Rattle.mtn_frame.proofs.SessionLemmas.{begins, ended_at, walked_on, all_walked, jobs_again, one_more_job, one_less, none_left}
use Rattle.mtn_cli.proofs.ReadingLemmas.{one_of_jobs}
use Rattle.mtn_cli.proofs.session.run_jobs.Goals as goal

pub loop-job-init : goal.loop-job-init
loop-job-init g c = record {
  all = c.into_iter-job-iterator.ensures.into_iter_gives.0 ∙ c.into_vec-jobs.ensures;
  long = omega (arith, ap length c.into_iter-job-iterator.ensures.into_iter_gives.0, c.into_iter-job-iterator.ensures.into_iter_gives.1, c.len-count.ensures);
  count = refl;
  walking = begins (StandsIn (g.I.Ident.meaning c.args.ident.now)) (ShowsDamage (g.I.Ident.meaning c.args.ident.now) (list_any job_reading c.args.jobs ≡ true) (list_any job_checking c.args.jobs ≡ true) (list_any job_migrating c.args.jobs ≡ true)) (IsFirstLine (g.I.Ident.meaning c.args.ident.now)) IsOldStore IsLine Knows g.K.Keeper.contents g.K.Keeper.leaves g.K.Keeper.faults g.K.Keeper.reads (Does (Step (g.I.Ident.meaning c.args.ident.now))) c.args.jobs
      c.args.keeper.now (g.O.Sink.written c.args.sink.now) (g.O.Sink.faults c.args.sink.now) c.args.memory.now c.requires;
}

pub returns-then-not-goes_on : goal.returns-then-not-goes_on
returns-then-not-goes_on g c =
    ended_at (StandsIn (g.I.Ident.meaning c.args.ident.now)) (ShowsDamage (g.I.Ident.meaning c.args.ident.now) (list_any job_reading c.args.jobs ≡ true) (list_any job_checking c.args.jobs ≡ true) (list_any job_migrating c.args.jobs ≡ true)) (IsFirstLine (g.I.Ident.meaning c.args.ident.now)) IsOldStore IsLine Knows g.K.Keeper.contents g.K.Keeper.leaves g.K.Keeper.faults g.K.Keeper.reads (Does (Step (g.I.Ident.meaning c.args.ident.now))) c.args.jobs
    c.args.keeper.now (g.O.Sink.written c.args.sink.now) (g.O.Sink.faults c.args.sink.now)
    c.loop-job.keeper c.one-status.new.keeper c.loop-job.memory c.one-status.new.memory (g.O.Sink.written c.loop-job.sink) (g.O.Sink.written c.one-status.new.sink) (g.O.Sink.faults c.loop-job.sink) (g.O.Sink.faults c.one-status.new.sink)
    c.loop-job.yielded (into_iter_items c.loop-job.job-iterator) (into_iter_items c.next.new.self) c.in-Some.job c.loop-job.number (job_spelled is_spelled c.in-Some.job) (job_merging is_merging c.in-Some.job) (job_vouching is_checking c.in-Some.job) (BoundsJob (bounds (g.I.Ident.meaning c.args.ident.now)) c.in-Some.job) (ChangesJob (changes (g.I.Ident.meaning c.args.ident.now)) c.in-Some.job) c.one-status.result c.loop-job.invariant.all c.in-Some.ensures.steps.0 c.loop-job.invariant.count c.loop-job.invariant.walking
    (one_of_jobs (g.I.Ident.meaning c.args.ident.now) Knows g.K.Keeper.contents g.K.Keeper.leaves g.K.Keeper.faults g.K.Keeper.reads c.loop-job.keeper c.one-status.new.keeper c.one-status.new.memory (g.O.Sink.written c.loop-job.sink) (g.O.Sink.written c.one-status.new.sink) (g.O.Sink.faults c.loop-job.sink) (g.O.Sink.faults c.one-status.new.sink)
    _ _ _ _ _ _ _ c.one-status.result c.args.jobs c.loop-job.yielded (into_iter_items c.loop-job.job-iterator) (into_iter_items c.next.new.self) c.in-Some.job c.loop-job.invariant.all c.in-Some.ensures.steps.0 c.one-status.ensures) (sym c.goes_on.ensures ∙ c.if-not-goes_on.true)

pub loop-job-preserved : goal.loop-job-preserved
loop-job-preserved g c = record {
  all = jobs_again c.loop-job.yielded (into_iter_items c.loop-job.job-iterator) (into_iter_items c.next.new.self) c.args.jobs c.in-Some.job c.loop-job.invariant.all c.in-Some.ensures.steps.0;
  long = one_less (into_iter_items c.loop-job.job-iterator) (into_iter_items c.next.new.self) c.in-Some.job (into_iter_len c.loop-job.job-iterator) (into_iter_len c.next.new.self) c.loop-job.invariant.long c.in-Some.ensures.steps.0 c.in-Some.ensures.steps.1;
  count = one_more_job c.loop-job.yielded c.in-Some.job c.loop-job.number c.loop-job.invariant.count;
  walking = walked_on (StandsIn (g.I.Ident.meaning c.args.ident.now)) (ShowsDamage (g.I.Ident.meaning c.args.ident.now) (list_any job_reading c.args.jobs ≡ true) (list_any job_checking c.args.jobs ≡ true) (list_any job_migrating c.args.jobs ≡ true)) (IsFirstLine (g.I.Ident.meaning c.args.ident.now)) IsOldStore IsLine Knows g.K.Keeper.contents g.K.Keeper.leaves g.K.Keeper.faults g.K.Keeper.reads (Does (Step (g.I.Ident.meaning c.args.ident.now))) c.args.jobs
      c.args.keeper.now (g.O.Sink.written c.args.sink.now) (g.O.Sink.faults c.args.sink.now)
      c.loop-job.keeper c.one-status.new.keeper c.loop-job.memory c.one-status.new.memory (g.O.Sink.written c.loop-job.sink) (g.O.Sink.written c.one-status.new.sink) (g.O.Sink.faults c.loop-job.sink) (g.O.Sink.faults c.one-status.new.sink)
      c.loop-job.yielded (into_iter_items c.loop-job.job-iterator) (into_iter_items c.next.new.self) c.in-Some.job c.loop-job.number (job_spelled is_spelled c.in-Some.job) (job_merging is_merging c.in-Some.job) (job_vouching is_checking c.in-Some.job) (BoundsJob (bounds (g.I.Ident.meaning c.args.ident.now)) c.in-Some.job) (ChangesJob (changes (g.I.Ident.meaning c.args.ident.now)) c.in-Some.job) c.one-status.result c.loop-job.invariant.all c.in-Some.ensures.steps.0 c.loop-job.invariant.count c.loop-job.invariant.walking
      (one_of_jobs (g.I.Ident.meaning c.args.ident.now) Knows g.K.Keeper.contents g.K.Keeper.leaves g.K.Keeper.faults g.K.Keeper.reads c.loop-job.keeper c.one-status.new.keeper c.one-status.new.memory (g.O.Sink.written c.loop-job.sink) (g.O.Sink.written c.one-status.new.sink) (g.O.Sink.faults c.loop-job.sink) (g.O.Sink.faults c.one-status.new.sink)
      _ _ _ _ _ _ _ c.one-status.result c.args.jobs c.loop-job.yielded (into_iter_items c.loop-job.job-iterator) (into_iter_items c.next.new.self) c.in-Some.job c.loop-job.invariant.all c.in-Some.ensures.steps.0 c.one-status.ensures) (sym c.goes_on.ensures ∙ c.if-not-goes_on.false);
}

pub returns : goal.returns
returns g c =
    all_walked (StandsIn (g.I.Ident.meaning c.args.ident.now)) (ShowsDamage (g.I.Ident.meaning c.args.ident.now) (list_any job_reading c.args.jobs ≡ true) (list_any job_checking c.args.jobs ≡ true) (list_any job_migrating c.args.jobs ≡ true)) (IsFirstLine (g.I.Ident.meaning c.args.ident.now)) IsOldStore IsLine Knows g.K.Keeper.contents g.K.Keeper.leaves g.K.Keeper.faults g.K.Keeper.reads (Does (Step (g.I.Ident.meaning c.args.ident.now))) c.args.jobs
    c.args.keeper.now (g.O.Sink.written c.args.sink.now) (g.O.Sink.faults c.args.sink.now)
    c.loop-job.keeper c.loop-job.memory (g.O.Sink.written c.loop-job.sink) (g.O.Sink.faults c.loop-job.sink) c.loop-job.yielded (into_iter_items c.loop-job.job-iterator) c.loop-job.number c.loop-job.invariant.all (none_left (into_iter_items c.loop-job.job-iterator) (omega (arith, c.loop-job.invariant.long, c.in-None.ensures.steps.0))) c.loop-job.invariant.count c.loop-job.invariant.walking
