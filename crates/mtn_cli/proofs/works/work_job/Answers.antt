use Rattle.std.proofs.Common.{◌≡◌, true, refl}
use Rattle.mtn_cli.specs.Step.{Step}
use Rattle.mtn_cli.specs.Store.{IsFirstLine, IsLine, IsOldStore, ShowsDamage, bounds, changes, is_checking, is_merging, is_migrating, is_reading, is_spelled}
use Rattle.mtn_history.specs.Memory.{Knows}
use Rattle.mtn_old_stores.specs.Stores.{StandsIn}
use Rattle.mtn_frame.proofs.OneLemmas.{works_call}
use Rattle.mtn_cli.proofs.ReadingLemmas.{job_works}
use Rattle.mtn_cli.proofs.works.work_job.Goals as goal

pub returns-in-Call : goal.returns-in-Call
returns-in-Call g c =
    job_works (g.I.Ident.meaning c.args.ident.now) Knows g.K.Keeper.contents g.K.Keeper.leaves g.K.Keeper.faults g.K.Keeper.reads c.args.keeper.now c.work_words.new.keeper c.work_words.new.memory _ _ _ _ _ _ c.work_words.result c.args.job c.in-Call.words c.as_slice.result.now c.in-Call.payload c.in-Call.is c.as_slice.ensures
    (works_call (StandsIn (g.I.Ident.meaning c.args.ident.now)) (ShowsDamage (g.I.Ident.meaning c.args.ident.now) (is_reading c.as_slice.result.now ≡ true) (is_checking c.as_slice.result.now ≡ true) (is_migrating c.as_slice.result.now ≡ true)) (IsFirstLine (g.I.Ident.meaning c.args.ident.now)) IsOldStore IsLine Knows g.K.Keeper.contents g.K.Keeper.leaves g.K.Keeper.faults g.K.Keeper.reads c.args.keeper.now c.work_words.new.keeper c.work_words.new.memory
    is_spelled is_merging is_checking (Step (g.I.Ident.meaning c.args.ident.now)) (bounds (g.I.Ident.meaning c.args.ident.now)) (changes (g.I.Ident.meaning c.args.ident.now)) c.args.job c.in-Call.words c.as_slice.result.now c.in-Call.payload c.in-Call.payload c.work_words.result
    c.in-Call.is c.as_slice.ensures refl c.work_words.ensures)
