use Rattle.std.proofs.Common.{sym, ap, ◌∙◌, refl, length, arith}
use Rattle.std.specs.Vec.Iter.{into_iter_items, into_iter_len}
use Rattle.mtn_frame.specs.Script.{Does, BoundsJob, ChangesJob}
use Rattle.mtn_frame.specs.Works.{is_spelled, is_merging, is_vouching}
use Rattle.mtn_frame.proofs.SessionLemmas.{begins, ended_at, walked_on, all_walked, jobs_again, one_more_job, one_less, none_left}
use Rattle.mtn_frame.proofs.session.run_jobs.Goals as goal

pub loop-job-init : goal.loop-job-init
loop-job-init g c = record {
  all = c.into_iter-job-iterator.ensures.into_iter_gives.0 ∙ c.into_vec-jobs.ensures;
  long = omega (arith, ap length c.into_iter-job-iterator.ensures.into_iter_gives.0, c.into_iter-job-iterator.ensures.into_iter_gives.1, c.len-count.ensures);
  count = refl;
  walking = begins (g.C.Commands.stands c.args.commands.now) (g.C.Commands.damages c.args.commands.now) (g.C.Commands.firsts c.args.commands.now) (g.C.Commands.refuses c.args.commands.now) g.C.Commands.lines (g.C.Commands.knows c.args.commands.now) g.K.Keeper.contents g.K.Keeper.leaves g.K.Keeper.faults g.K.Keeper.reads (Does (g.C.Commands.does c.args.commands.now)) c.args.jobs
      c.args.keeper.now (g.O.Sink.written c.args.sink.now) (g.O.Sink.faults c.args.sink.now) c.args.memory.now c.requires;
}

pub returns-then-not-goes_on : goal.returns-then-not-goes_on
returns-then-not-goes_on g c =
    ended_at (g.C.Commands.stands c.args.commands.now) (g.C.Commands.damages c.args.commands.now) (g.C.Commands.firsts c.args.commands.now) (g.C.Commands.refuses c.args.commands.now) g.C.Commands.lines (g.C.Commands.knows c.args.commands.now) g.K.Keeper.contents g.K.Keeper.leaves g.K.Keeper.faults g.K.Keeper.reads (Does (g.C.Commands.does c.args.commands.now)) c.args.jobs
    c.args.keeper.now (g.O.Sink.written c.args.sink.now) (g.O.Sink.faults c.args.sink.now)
    c.loop-job.keeper c.one-status.new.keeper c.loop-job.memory c.one-status.new.memory (g.O.Sink.written c.loop-job.sink) (g.O.Sink.written c.one-status.new.sink) (g.O.Sink.faults c.loop-job.sink) (g.O.Sink.faults c.one-status.new.sink)
    c.loop-job.yielded (into_iter_items c.loop-job.job-iterator) (into_iter_items c.next.new.self) c.in-Some.job c.loop-job.number (is_spelled g.C.Commands.spelled c.in-Some.job) (is_merging g.C.Commands.merging c.in-Some.job) (is_vouching g.C.Commands.vouching c.in-Some.job) (BoundsJob (g.C.Commands.bounds c.args.commands.now) c.in-Some.job) (ChangesJob (g.C.Commands.changes c.args.commands.now) c.in-Some.job) c.one-status.result c.loop-job.invariant.all c.in-Some.ensures.steps.0 c.loop-job.invariant.count c.loop-job.invariant.walking c.one-status.ensures (sym c.goes_on.ensures ∙ c.if-not-goes_on.true)

pub loop-job-preserved : goal.loop-job-preserved
loop-job-preserved g c = record {
  all = jobs_again c.loop-job.yielded (into_iter_items c.loop-job.job-iterator) (into_iter_items c.next.new.self) c.args.jobs c.in-Some.job c.loop-job.invariant.all c.in-Some.ensures.steps.0;
  long = one_less (into_iter_items c.loop-job.job-iterator) (into_iter_items c.next.new.self) c.in-Some.job (into_iter_len c.loop-job.job-iterator) (into_iter_len c.next.new.self) c.loop-job.invariant.long c.in-Some.ensures.steps.0 c.in-Some.ensures.steps.1;
  count = one_more_job c.loop-job.yielded c.in-Some.job c.loop-job.number c.loop-job.invariant.count;
  walking = walked_on (g.C.Commands.stands c.args.commands.now) (g.C.Commands.damages c.args.commands.now) (g.C.Commands.firsts c.args.commands.now) (g.C.Commands.refuses c.args.commands.now) g.C.Commands.lines (g.C.Commands.knows c.args.commands.now) g.K.Keeper.contents g.K.Keeper.leaves g.K.Keeper.faults g.K.Keeper.reads (Does (g.C.Commands.does c.args.commands.now)) c.args.jobs
      c.args.keeper.now (g.O.Sink.written c.args.sink.now) (g.O.Sink.faults c.args.sink.now)
      c.loop-job.keeper c.one-status.new.keeper c.loop-job.memory c.one-status.new.memory (g.O.Sink.written c.loop-job.sink) (g.O.Sink.written c.one-status.new.sink) (g.O.Sink.faults c.loop-job.sink) (g.O.Sink.faults c.one-status.new.sink)
      c.loop-job.yielded (into_iter_items c.loop-job.job-iterator) (into_iter_items c.next.new.self) c.in-Some.job c.loop-job.number (is_spelled g.C.Commands.spelled c.in-Some.job) (is_merging g.C.Commands.merging c.in-Some.job) (is_vouching g.C.Commands.vouching c.in-Some.job) (BoundsJob (g.C.Commands.bounds c.args.commands.now) c.in-Some.job) (ChangesJob (g.C.Commands.changes c.args.commands.now) c.in-Some.job) c.one-status.result c.loop-job.invariant.all c.in-Some.ensures.steps.0 c.loop-job.invariant.count c.loop-job.invariant.walking c.one-status.ensures (sym c.goes_on.ensures ∙ c.if-not-goes_on.false);
}

pub returns : goal.returns
returns g c =
    all_walked (g.C.Commands.stands c.args.commands.now) (g.C.Commands.damages c.args.commands.now) (g.C.Commands.firsts c.args.commands.now) (g.C.Commands.refuses c.args.commands.now) g.C.Commands.lines (g.C.Commands.knows c.args.commands.now) g.K.Keeper.contents g.K.Keeper.leaves g.K.Keeper.faults g.K.Keeper.reads (Does (g.C.Commands.does c.args.commands.now)) c.args.jobs
    c.args.keeper.now (g.O.Sink.written c.args.sink.now) (g.O.Sink.faults c.args.sink.now)
    c.loop-job.keeper c.loop-job.memory (g.O.Sink.written c.loop-job.sink) (g.O.Sink.faults c.loop-job.sink) c.loop-job.yielded (into_iter_items c.loop-job.job-iterator) c.loop-job.number c.loop-job.invariant.all (none_left (into_iter_items c.loop-job.job-iterator) (omega (arith, c.loop-job.invariant.long, c.in-None.ensures.steps.0))) c.loop-job.invariant.count c.loop-job.invariant.walking
