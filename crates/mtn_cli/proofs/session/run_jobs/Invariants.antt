use Rattle.std.specs.List.{list_any}
use Rattle.std.proofs.Common.{◌≡◌, ◌++◌, length, true}
use Rattle.std.specs.Vec.Iter.{into_iter_items, into_iter_len}
use Rattle.mtn_cli.specs.Step.{Step}
use Rattle.mtn_cli.specs.Store.{IsFirstLine, IsLine, IsOldStore, ShowsDamage, job_checking, job_migrating, job_reading}
use Rattle.mtn_history.specs.Memory.{Knows}
use Rattle.mtn_old_stores.specs.Stores.{StandsIn}
use Rattle.mtn_frame.specs.Script.{Does}
use Rattle.mtn_frame.proofs.SessionLemmas.{Walking}
use Rattle.mtn_cli.proofs.session.run_jobs.Given as goal

abbrev pub invariant-loop-job : goal.invariant-loop-job
invariant-loop-job g l = record {
  all : l.yielded ++ into_iter_items l.job-iterator ≡ l.fn.jobs;
  long : into_iter_len l.job-iterator ≡ length (into_iter_items l.job-iterator);
  count : l.number ≡ length l.yielded;
  walking : Walking (StandsIn (g.I.Ident.meaning l.fn.ident)) (ShowsDamage (g.I.Ident.meaning l.fn.ident) (list_any job_reading l.fn.jobs ≡ true) (list_any job_checking l.fn.jobs ≡ true) (list_any job_migrating l.fn.jobs ≡ true)) (IsFirstLine (g.I.Ident.meaning l.fn.ident)) IsOldStore IsLine Knows g.K.Keeper.contents g.K.Keeper.leaves g.K.Keeper.faults g.K.Keeper.reads (Does (Step (g.I.Ident.meaning l.fn.ident))) l.fn.jobs
      l.fn.keeper (g.O.Sink.written l.fn.sink) (g.O.Sink.faults l.fn.sink) l.keeper l.memory (g.O.Sink.written l.sink) (g.O.Sink.faults l.sink) l.number;
}
