use Rattle.std.proofs.Common.{◌≡◌, true, sym, subst}
use Rattle.mtn_cli.specs.Step.{Step}
use Rattle.mtn_cli.specs.Store.{IsFirstLine, IsLine, IsOldStore, ShowsDamage, bounds, changes, is_checking, is_merging, is_spelled, script_checking, script_migrating, script_reading}
use Rattle.mtn_history.specs.Memory.{Knows}
use Rattle.mtn_old_stores.specs.Stores.{StandsIn}
use Rattle.mtn_frame.specs.Script.{Does}
use Rattle.mtn_frame.specs.Session.{RunsJobs}
use Rattle.mtn_frame.specs.declared.script.Script.{Script}
use Rattle.mtn_frame.proofs.ScriptLemmas.{of_bare, of_session}
use Rattle.mtn_cli.proofs.ReadingLemmas.{bare_job}
use Rattle.mtn_cli.proofs.session.run_script.Goals as goal

pub returns-in-Bare : goal.returns-in-Bare
returns-in-Bare g c =
    of_bare (StandsIn (g.I.Ident.meaning c.args.ident.now)) (ShowsDamage (g.I.Ident.meaning c.args.ident.now) (script_reading c.args.script ≡ true) (script_checking c.args.script ≡ true) (script_migrating c.args.script ≡ true)) (IsFirstLine (g.I.Ident.meaning c.args.ident.now)) IsOldStore IsLine Knows g.K.Keeper.contents g.K.Keeper.leaves g.K.Keeper.faults g.K.Keeper.reads (Step (g.I.Ident.meaning c.args.ident.now)) (bounds (g.I.Ident.meaning c.args.ident.now)) (changes (g.I.Ident.meaning c.args.ident.now)) is_spelled is_merging is_checking
    c.args.keeper.now c.one.new.keeper c.one.new.memory (g.O.Sink.written c.args.sink.now) (g.O.Sink.written c.one.new.sink) (g.O.Sink.faults c.args.sink.now) (g.O.Sink.faults c.one.new.sink) c.one.result
    c.args.script c.in-Bare.job c.in-Bare.is
    (bare_job (g.I.Ident.meaning c.args.ident.now) Knows g.K.Keeper.contents g.K.Keeper.leaves g.K.Keeper.faults g.K.Keeper.reads c.args.keeper.now c.one.new.keeper c.one.new.memory (g.O.Sink.written c.args.sink.now) (g.O.Sink.written c.one.new.sink) (g.O.Sink.faults c.args.sink.now) (g.O.Sink.faults c.one.new.sink) _ _ _ _ _ _ _ c.one.result
    c.args.script c.in-Bare.job c.in-Bare.is c.one.ensures)

pub returns : goal.returns
returns g c =
    of_session (StandsIn (g.I.Ident.meaning c.args.ident.now)) (ShowsDamage (g.I.Ident.meaning c.args.ident.now) (script_reading c.args.script ≡ true) (script_checking c.args.script ≡ true) (script_migrating c.args.script ≡ true)) (IsFirstLine (g.I.Ident.meaning c.args.ident.now)) IsOldStore IsLine Knows g.K.Keeper.contents g.K.Keeper.leaves g.K.Keeper.faults g.K.Keeper.reads (Step (g.I.Ident.meaning c.args.ident.now)) (bounds (g.I.Ident.meaning c.args.ident.now)) (changes (g.I.Ident.meaning c.args.ident.now)) is_spelled is_merging is_checking
    c.args.keeper.now c.run_jobs.new.keeper c.run_jobs.new.memory (g.O.Sink.written c.args.sink.now) (g.O.Sink.written c.run_jobs.new.sink) (g.O.Sink.faults c.args.sink.now) (g.O.Sink.faults c.run_jobs.new.sink) c.run_jobs.result
    c.args.script c.in-Framed.jobs c.in-Framed.is
    (subst (λ (x : Script). RunsJobs (StandsIn (g.I.Ident.meaning c.args.ident.now)) (ShowsDamage (g.I.Ident.meaning c.args.ident.now) (script_reading x ≡ true) (script_checking x ≡ true) (script_migrating x ≡ true)) (Does (Step (g.I.Ident.meaning c.args.ident.now))) g.K.Keeper.contents g.K.Keeper.leaves g.K.Keeper.faults c.args.keeper.now c.run_jobs.new.keeper (g.O.Sink.written c.args.sink.now) (g.O.Sink.written c.run_jobs.new.sink) (g.O.Sink.faults c.args.sink.now) (g.O.Sink.faults c.run_jobs.new.sink) c.in-Framed.jobs c.run_jobs.result) (sym c.in-Framed.is) c.run_jobs.ensures)
