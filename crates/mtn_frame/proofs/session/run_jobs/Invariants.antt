use Rattle.std.proofs.Common.{◌≡◌, ◌++◌, length}
use Rattle.std.specs.Vec.Iter.{into_iter_items, into_iter_len}
use Rattle.mtn_frame.specs.Script.{Does}
use Rattle.mtn_frame.proofs.SessionLemmas.{Walking}
use Rattle.mtn_frame.proofs.session.run_jobs.Given as goal

abbrev pub invariant-loop-job : goal.invariant-loop-job
invariant-loop-job g l = record {
  all : l.yielded ++ into_iter_items l.job-iterator ≡ l.fn.jobs;
  long : into_iter_len l.job-iterator ≡ length (into_iter_items l.job-iterator);
  count : l.number ≡ length l.yielded;
  walking : Walking (g.C.Commands.stands l.fn.commands) (g.C.Commands.damages l.fn.commands) (g.C.Commands.firsts l.fn.commands) (g.C.Commands.refuses l.fn.commands) g.C.Commands.lines (g.C.Commands.knows l.fn.commands) g.K.Keeper.contents g.K.Keeper.leaves g.K.Keeper.faults g.K.Keeper.reads (Does (g.C.Commands.does l.fn.commands)) l.fn.jobs
      l.fn.keeper (g.O.Sink.written l.fn.sink) (g.O.Sink.faults l.fn.sink) l.keeper l.memory (g.O.Sink.written l.sink) (g.O.Sink.faults l.sink) l.number;
}
