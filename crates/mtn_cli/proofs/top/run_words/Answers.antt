use Rattle.std.proofs.Common.{◌≡◌, true, refl}
use Rattle.mtn_cli.specs.Run.{ChecksStore, MigratesStore, ReadsPackets}
use Rattle.mtn_cli.specs.Step.{Step}
use Rattle.mtn_cli.specs.Store.{IsFirstLine, IsLine, IsOldStore, ShowsDamage, bounds, changes, is_checking, is_merging, is_spelled, script_checking, script_migrating, script_reading}
use Rattle.mtn_old_stores.specs.Stores.{StandsIn}
use Rattle.mtn_frame.specs.Payload.{takes_last}
use Rattle.mtn_frame.specs.Script.{BoundsJob, ChangesJob, Does}
use Rattle.mtn_frame.proofs.TopLemmas.{no_memory, source_failed, too_long, ran, read_as, feeds_as, known, long_as}
use Rattle.mtn_cli.proofs.ReadingLemmas.{script_run}
use Rattle.mtn_cli.proofs.top.run_words.Goals as goal

pub returns-in_default : goal.returns-in_default
returns-in_default g c = no_memory (StandsIn (g.I.Ident.meaning c.args.ident.now)) (ShowsDamage (g.I.Ident.meaning c.args.ident.now) (ReadsPackets c.args.words.now (g.S.Source.left c.args.source.now) (g.S.Source.left c.args.source.now)) (ChecksStore c.args.words.now (g.S.Source.left c.args.source.now) (g.S.Source.left c.args.source.now)) (MigratesStore c.args.words.now (g.S.Source.left c.args.source.now) (g.S.Source.left c.args.source.now))) (IsFirstLine (g.I.Ident.meaning c.args.ident.now)) IsOldStore IsLine (Step (g.I.Ident.meaning c.args.ident.now)) (bounds (g.I.Ident.meaning c.args.ident.now)) (changes (g.I.Ident.meaning c.args.ident.now)) takes_last is_spelled is_merging is_checking c.args.words.now
    (g.K.Keeper.contents c.args.keeper.now) (g.S.Source.left c.args.source.now) (g.S.Source.left c.args.source.now) (g.O.Sink.written c.args.sink.now) (g.K.Keeper.faults c.args.keeper.now) (g.S.Source.faults c.args.source.now) (g.S.Source.faults c.args.source.now) (g.O.Sink.faults c.args.sink.now) (g.K.Keeper.reads c.args.keeper.now) (g.K.Keeper.leaves c.args.keeper.now) (λ _. refl)

pub returns-in-Err-Failed : goal.returns-in-Err-Failed
returns-in-Err-Failed g c = source_failed (StandsIn (g.I.Ident.meaning c.args.ident.now)) (ShowsDamage (g.I.Ident.meaning c.args.ident.now) (ReadsPackets c.args.words.now (g.S.Source.left c.args.source.now) (g.S.Source.left c.feed.new.source)) (ChecksStore c.args.words.now (g.S.Source.left c.args.source.now) (g.S.Source.left c.feed.new.source)) (MigratesStore c.args.words.now (g.S.Source.left c.args.source.now) (g.S.Source.left c.feed.new.source))) (IsFirstLine (g.I.Ident.meaning c.args.ident.now)) IsOldStore IsLine (Step (g.I.Ident.meaning c.args.ident.now)) (bounds (g.I.Ident.meaning c.args.ident.now)) (changes (g.I.Ident.meaning c.args.ident.now)) takes_last is_spelled is_merging is_checking c.args.words.now
    (g.K.Keeper.contents c.args.keeper.now) (g.S.Source.left c.args.source.now) (g.S.Source.left c.feed.new.source) (g.O.Sink.written c.args.sink.now) (g.K.Keeper.faults c.args.keeper.now) (g.S.Source.faults c.args.source.now) (g.S.Source.faults c.feed.new.source) (g.O.Sink.faults c.args.sink.now) (g.K.Keeper.reads c.args.keeper.now) (g.K.Keeper.leaves c.args.keeper.now) (read_as (StandsIn (g.I.Ident.meaning c.args.ident.now)) (ShowsDamage (g.I.Ident.meaning c.args.ident.now) (ReadsPackets c.args.words.now (g.S.Source.left c.args.source.now) (g.S.Source.left c.feed.new.source)) (ChecksStore c.args.words.now (g.S.Source.left c.args.source.now) (g.S.Source.left c.feed.new.source)) (MigratesStore c.args.words.now (g.S.Source.left c.args.source.now) (g.S.Source.left c.feed.new.source))) (IsFirstLine (g.I.Ident.meaning c.args.ident.now)) IsOldStore IsLine (Step (g.I.Ident.meaning c.args.ident.now)) (bounds (g.I.Ident.meaning c.args.ident.now)) (changes (g.I.Ident.meaning c.args.ident.now)) takes_last is_spelled is_merging is_checking c.args.words.now c.in-Ok.reads c.in-Ok.ensures (g.S.Source.left c.args.source.now) (g.S.Source.left c.feed.new.source) c.feed.ensures.unread) ((rw c.in-Err-Failed.field-0-is at c.in-Err-Failed.ensures.failed) refl) (rw c.in-Err-Failed.field-0-is at c.in-Err-Failed.ensures.limit) (known (StandsIn (g.I.Ident.meaning c.args.ident.now)) (ShowsDamage (g.I.Ident.meaning c.args.ident.now) (ReadsPackets c.args.words.now (g.S.Source.left c.args.source.now) (g.S.Source.left c.feed.new.source)) (ChecksStore c.args.words.now (g.S.Source.left c.args.source.now) (g.S.Source.left c.feed.new.source)) (MigratesStore c.args.words.now (g.S.Source.left c.args.source.now) (g.S.Source.left c.feed.new.source))) (IsFirstLine (g.I.Ident.meaning c.args.ident.now)) IsOldStore IsLine (Step (g.I.Ident.meaning c.args.ident.now)) (bounds (g.I.Ident.meaning c.args.ident.now)) (changes (g.I.Ident.meaning c.args.ident.now)) takes_last is_spelled is_merging is_checking c.args.words.now c.in-Ok.reads c.in-Ok.ensures c.in-Err-Failed.ensures.reads)

pub returns-in-Err-TooLong : goal.returns-in-Err-TooLong
returns-in-Err-TooLong g c = too_long (StandsIn (g.I.Ident.meaning c.args.ident.now)) (ShowsDamage (g.I.Ident.meaning c.args.ident.now) (ReadsPackets c.args.words.now (g.S.Source.left c.args.source.now) (g.S.Source.left c.feed.new.source)) (ChecksStore c.args.words.now (g.S.Source.left c.args.source.now) (g.S.Source.left c.feed.new.source)) (MigratesStore c.args.words.now (g.S.Source.left c.args.source.now) (g.S.Source.left c.feed.new.source))) (IsFirstLine (g.I.Ident.meaning c.args.ident.now)) IsOldStore IsLine (Step (g.I.Ident.meaning c.args.ident.now)) (bounds (g.I.Ident.meaning c.args.ident.now)) (changes (g.I.Ident.meaning c.args.ident.now)) takes_last is_spelled is_merging is_checking c.args.words.now
    (g.K.Keeper.contents c.args.keeper.now) (g.S.Source.left c.args.source.now) (g.S.Source.left c.feed.new.source) (g.O.Sink.written c.args.sink.now) (g.K.Keeper.faults c.args.keeper.now) (g.S.Source.faults c.args.source.now) (g.S.Source.faults c.feed.new.source) (g.O.Sink.faults c.args.sink.now) (g.K.Keeper.reads c.args.keeper.now) (g.K.Keeper.leaves c.args.keeper.now) (read_as (StandsIn (g.I.Ident.meaning c.args.ident.now)) (ShowsDamage (g.I.Ident.meaning c.args.ident.now) (ReadsPackets c.args.words.now (g.S.Source.left c.args.source.now) (g.S.Source.left c.feed.new.source)) (ChecksStore c.args.words.now (g.S.Source.left c.args.source.now) (g.S.Source.left c.feed.new.source)) (MigratesStore c.args.words.now (g.S.Source.left c.args.source.now) (g.S.Source.left c.feed.new.source))) (IsFirstLine (g.I.Ident.meaning c.args.ident.now)) IsOldStore IsLine (Step (g.I.Ident.meaning c.args.ident.now)) (bounds (g.I.Ident.meaning c.args.ident.now)) (changes (g.I.Ident.meaning c.args.ident.now)) takes_last is_spelled is_merging is_checking c.args.words.now c.in-Ok.reads c.in-Ok.ensures (g.S.Source.left c.args.source.now) (g.S.Source.left c.feed.new.source) c.feed.ensures.unread) (long_as (StandsIn (g.I.Ident.meaning c.args.ident.now)) (ShowsDamage (g.I.Ident.meaning c.args.ident.now) (ReadsPackets c.args.words.now (g.S.Source.left c.args.source.now) (g.S.Source.left c.feed.new.source)) (ChecksStore c.args.words.now (g.S.Source.left c.args.source.now) (g.S.Source.left c.feed.new.source)) (MigratesStore c.args.words.now (g.S.Source.left c.args.source.now) (g.S.Source.left c.feed.new.source))) (IsFirstLine (g.I.Ident.meaning c.args.ident.now)) IsOldStore IsLine (Step (g.I.Ident.meaning c.args.ident.now)) (bounds (g.I.Ident.meaning c.args.ident.now)) (changes (g.I.Ident.meaning c.args.ident.now)) takes_last is_spelled is_merging is_checking c.args.words.now c.in-Ok.reads c.in-Ok.ensures (g.S.Source.left c.args.source.now) (g.S.Source.left c.feed.new.source) (rw c.in-Err-TooLong.field-0-is at c.in-Err-TooLong.ensures.limit)) (known (StandsIn (g.I.Ident.meaning c.args.ident.now)) (ShowsDamage (g.I.Ident.meaning c.args.ident.now) (ReadsPackets c.args.words.now (g.S.Source.left c.args.source.now) (g.S.Source.left c.feed.new.source)) (ChecksStore c.args.words.now (g.S.Source.left c.args.source.now) (g.S.Source.left c.feed.new.source)) (MigratesStore c.args.words.now (g.S.Source.left c.args.source.now) (g.S.Source.left c.feed.new.source))) (IsFirstLine (g.I.Ident.meaning c.args.ident.now)) IsOldStore IsLine (Step (g.I.Ident.meaning c.args.ident.now)) (bounds (g.I.Ident.meaning c.args.ident.now)) (changes (g.I.Ident.meaning c.args.ident.now)) takes_last is_spelled is_merging is_checking c.args.words.now c.in-Ok.reads c.in-Ok.ensures c.in-Err-TooLong.ensures.reads)

pub returns-in-Err-NoMemory : goal.returns-in-Err-NoMemory
returns-in-Err-NoMemory g c = no_memory (StandsIn (g.I.Ident.meaning c.args.ident.now)) (ShowsDamage (g.I.Ident.meaning c.args.ident.now) (ReadsPackets c.args.words.now (g.S.Source.left c.args.source.now) (g.S.Source.left c.feed.new.source)) (ChecksStore c.args.words.now (g.S.Source.left c.args.source.now) (g.S.Source.left c.feed.new.source)) (MigratesStore c.args.words.now (g.S.Source.left c.args.source.now) (g.S.Source.left c.feed.new.source))) (IsFirstLine (g.I.Ident.meaning c.args.ident.now)) IsOldStore IsLine (Step (g.I.Ident.meaning c.args.ident.now)) (bounds (g.I.Ident.meaning c.args.ident.now)) (changes (g.I.Ident.meaning c.args.ident.now)) takes_last is_spelled is_merging is_checking c.args.words.now
    (g.K.Keeper.contents c.args.keeper.now) (g.S.Source.left c.args.source.now) (g.S.Source.left c.feed.new.source) (g.O.Sink.written c.args.sink.now) (g.K.Keeper.faults c.args.keeper.now) (g.S.Source.faults c.args.source.now) (g.S.Source.faults c.feed.new.source) (g.O.Sink.faults c.args.sink.now) (g.K.Keeper.reads c.args.keeper.now) (g.K.Keeper.leaves c.args.keeper.now) (read_as (StandsIn (g.I.Ident.meaning c.args.ident.now)) (ShowsDamage (g.I.Ident.meaning c.args.ident.now) (ReadsPackets c.args.words.now (g.S.Source.left c.args.source.now) (g.S.Source.left c.feed.new.source)) (ChecksStore c.args.words.now (g.S.Source.left c.args.source.now) (g.S.Source.left c.feed.new.source)) (MigratesStore c.args.words.now (g.S.Source.left c.args.source.now) (g.S.Source.left c.feed.new.source))) (IsFirstLine (g.I.Ident.meaning c.args.ident.now)) IsOldStore IsLine (Step (g.I.Ident.meaning c.args.ident.now)) (bounds (g.I.Ident.meaning c.args.ident.now)) (changes (g.I.Ident.meaning c.args.ident.now)) takes_last is_spelled is_merging is_checking c.args.words.now c.in-Ok.reads c.in-Ok.ensures (g.S.Source.left c.args.source.now) (g.S.Source.left c.feed.new.source) c.feed.ensures.unread)

pub returns-in-Err : goal.returns-in-Err
returns-in-Err g c = no_memory (StandsIn (g.I.Ident.meaning c.args.ident.now)) (ShowsDamage (g.I.Ident.meaning c.args.ident.now) (ReadsPackets c.args.words.now (g.S.Source.left c.args.source.now) (g.S.Source.left c.feed.new.source)) (ChecksStore c.args.words.now (g.S.Source.left c.args.source.now) (g.S.Source.left c.feed.new.source)) (MigratesStore c.args.words.now (g.S.Source.left c.args.source.now) (g.S.Source.left c.feed.new.source))) (IsFirstLine (g.I.Ident.meaning c.args.ident.now)) IsOldStore IsLine (Step (g.I.Ident.meaning c.args.ident.now)) (bounds (g.I.Ident.meaning c.args.ident.now)) (changes (g.I.Ident.meaning c.args.ident.now)) takes_last is_spelled is_merging is_checking c.args.words.now
    (g.K.Keeper.contents c.args.keeper.now) (g.S.Source.left c.args.source.now) (g.S.Source.left c.feed.new.source) (g.O.Sink.written c.args.sink.now) (g.K.Keeper.faults c.args.keeper.now) (g.S.Source.faults c.args.source.now) (g.S.Source.faults c.feed.new.source) (g.O.Sink.faults c.args.sink.now) (g.K.Keeper.reads c.args.keeper.now) (g.K.Keeper.leaves c.args.keeper.now) (read_as (StandsIn (g.I.Ident.meaning c.args.ident.now)) (ShowsDamage (g.I.Ident.meaning c.args.ident.now) (ReadsPackets c.args.words.now (g.S.Source.left c.args.source.now) (g.S.Source.left c.feed.new.source)) (ChecksStore c.args.words.now (g.S.Source.left c.args.source.now) (g.S.Source.left c.feed.new.source)) (MigratesStore c.args.words.now (g.S.Source.left c.args.source.now) (g.S.Source.left c.feed.new.source))) (IsFirstLine (g.I.Ident.meaning c.args.ident.now)) IsOldStore IsLine (Step (g.I.Ident.meaning c.args.ident.now)) (bounds (g.I.Ident.meaning c.args.ident.now)) (changes (g.I.Ident.meaning c.args.ident.now)) takes_last is_spelled is_merging is_checking c.args.words.now c.in-Ok.reads c.in-Ok.ensures (g.S.Source.left c.args.source.now) (g.S.Source.left c.feed.new.source) c.feed.ensures.unread)

pub returns-in-Ok-script_of : goal.returns-in-Ok-script_of
returns-in-Ok-script_of g c =
    ran (StandsIn (g.I.Ident.meaning c.args.ident.now)) (ShowsDamage (g.I.Ident.meaning c.args.ident.now) (ReadsPackets c.args.words.now (g.S.Source.left c.args.source.now) (g.S.Source.left c.feed.new.source)) (ChecksStore c.args.words.now (g.S.Source.left c.args.source.now) (g.S.Source.left c.feed.new.source)) (MigratesStore c.args.words.now (g.S.Source.left c.args.source.now) (g.S.Source.left c.feed.new.source))) (IsFirstLine (g.I.Ident.meaning c.args.ident.now)) IsOldStore IsLine (Step (g.I.Ident.meaning c.args.ident.now)) (bounds (g.I.Ident.meaning c.args.ident.now)) (changes (g.I.Ident.meaning c.args.ident.now)) takes_last is_spelled is_merging is_checking c.args.words.now
    g.K.Keeper.contents g.K.Keeper.leaves g.K.Keeper.faults g.K.Keeper.reads c.args.keeper.now c.run_script.new.keeper (g.S.Source.left c.args.source.now) (g.S.Source.left c.feed.new.source) (g.O.Sink.written c.args.sink.now) (g.O.Sink.written c.run_script.new.sink) (g.S.Source.faults c.args.source.now) (g.S.Source.faults c.feed.new.source) (g.O.Sink.faults c.args.sink.now) (g.O.Sink.faults c.run_script.new.sink)
    c.in-Ok-feed.input.items c.in-Ok-script_of.script c.run_script.result (feeds_as (StandsIn (g.I.Ident.meaning c.args.ident.now)) (ShowsDamage (g.I.Ident.meaning c.args.ident.now) (ReadsPackets c.args.words.now (g.S.Source.left c.args.source.now) (g.S.Source.left c.feed.new.source)) (ChecksStore c.args.words.now (g.S.Source.left c.args.source.now) (g.S.Source.left c.feed.new.source)) (MigratesStore c.args.words.now (g.S.Source.left c.args.source.now) (g.S.Source.left c.feed.new.source))) (IsFirstLine (g.I.Ident.meaning c.args.ident.now)) IsOldStore IsLine (Step (g.I.Ident.meaning c.args.ident.now)) (bounds (g.I.Ident.meaning c.args.ident.now)) (changes (g.I.Ident.meaning c.args.ident.now)) takes_last is_spelled is_merging is_checking c.args.words.now c.in-Ok.reads c.in-Ok.ensures (g.S.Source.left c.args.source.now) (g.S.Source.left c.feed.new.source) c.in-Ok-feed.input.items c.in-Ok-feed.ensures.all) c.in-Ok-feed.ensures.limit (read_as (StandsIn (g.I.Ident.meaning c.args.ident.now)) (ShowsDamage (g.I.Ident.meaning c.args.ident.now) (ReadsPackets c.args.words.now (g.S.Source.left c.args.source.now) (g.S.Source.left c.feed.new.source)) (ChecksStore c.args.words.now (g.S.Source.left c.args.source.now) (g.S.Source.left c.feed.new.source)) (MigratesStore c.args.words.now (g.S.Source.left c.args.source.now) (g.S.Source.left c.feed.new.source))) (IsFirstLine (g.I.Ident.meaning c.args.ident.now)) IsOldStore IsLine (Step (g.I.Ident.meaning c.args.ident.now)) (bounds (g.I.Ident.meaning c.args.ident.now)) (changes (g.I.Ident.meaning c.args.ident.now)) takes_last is_spelled is_merging is_checking c.args.words.now c.in-Ok.reads c.in-Ok.ensures (g.S.Source.left c.args.source.now) (g.S.Source.left c.feed.new.source) c.feed.ensures.unread) c.in-Ok-script_of.ensures
    (script_run (g.I.Ident.meaning c.args.ident.now) (Does (Step (g.I.Ident.meaning c.args.ident.now))) (BoundsJob (bounds (g.I.Ident.meaning c.args.ident.now))) (ChangesJob (changes (g.I.Ident.meaning c.args.ident.now))) g.K.Keeper.contents g.K.Keeper.leaves g.K.Keeper.faults g.K.Keeper.reads c.args.keeper.now c.run_script.new.keeper (g.O.Sink.written c.args.sink.now) (g.O.Sink.written c.run_script.new.sink) (g.O.Sink.faults c.args.sink.now) (g.O.Sink.faults c.run_script.new.sink)
    c.in-Ok-script_of.script _ _ _ c.run_script.result (script_reading c.in-Ok-script_of.script ≡ true) (ReadsPackets c.args.words.now (g.S.Source.left c.args.source.now) (g.S.Source.left c.feed.new.source)) (script_checking c.in-Ok-script_of.script ≡ true) (ChecksStore c.args.words.now (g.S.Source.left c.args.source.now) (g.S.Source.left c.feed.new.source)) (script_migrating c.in-Ok-script_of.script ≡ true) (MigratesStore c.args.words.now (g.S.Source.left c.args.source.now) (g.S.Source.left c.feed.new.source))
    (λ reads. (c.in-Ok-feed.input.items, c.in-Ok-script_of.script, (feeds_as (StandsIn (g.I.Ident.meaning c.args.ident.now)) (ShowsDamage (g.I.Ident.meaning c.args.ident.now) (ReadsPackets c.args.words.now (g.S.Source.left c.args.source.now) (g.S.Source.left c.feed.new.source)) (ChecksStore c.args.words.now (g.S.Source.left c.args.source.now) (g.S.Source.left c.feed.new.source)) (MigratesStore c.args.words.now (g.S.Source.left c.args.source.now) (g.S.Source.left c.feed.new.source))) (IsFirstLine (g.I.Ident.meaning c.args.ident.now)) IsOldStore IsLine (Step (g.I.Ident.meaning c.args.ident.now)) (bounds (g.I.Ident.meaning c.args.ident.now)) (changes (g.I.Ident.meaning c.args.ident.now)) takes_last is_spelled is_merging is_checking c.args.words.now c.in-Ok.reads c.in-Ok.ensures (g.S.Source.left c.args.source.now) (g.S.Source.left c.feed.new.source) c.in-Ok-feed.input.items c.in-Ok-feed.ensures.all), c.in-Ok-script_of.ensures, reads))
    (λ reads. (c.in-Ok-feed.input.items, c.in-Ok-script_of.script, (feeds_as (StandsIn (g.I.Ident.meaning c.args.ident.now)) (ShowsDamage (g.I.Ident.meaning c.args.ident.now) (ReadsPackets c.args.words.now (g.S.Source.left c.args.source.now) (g.S.Source.left c.feed.new.source)) (ChecksStore c.args.words.now (g.S.Source.left c.args.source.now) (g.S.Source.left c.feed.new.source)) (MigratesStore c.args.words.now (g.S.Source.left c.args.source.now) (g.S.Source.left c.feed.new.source))) (IsFirstLine (g.I.Ident.meaning c.args.ident.now)) IsOldStore IsLine (Step (g.I.Ident.meaning c.args.ident.now)) (bounds (g.I.Ident.meaning c.args.ident.now)) (changes (g.I.Ident.meaning c.args.ident.now)) takes_last is_spelled is_merging is_checking c.args.words.now c.in-Ok.reads c.in-Ok.ensures (g.S.Source.left c.args.source.now) (g.S.Source.left c.feed.new.source) c.in-Ok-feed.input.items c.in-Ok-feed.ensures.all), c.in-Ok-script_of.ensures, reads))
    (λ reads. (c.in-Ok-feed.input.items, c.in-Ok-script_of.script, (feeds_as (StandsIn (g.I.Ident.meaning c.args.ident.now)) (ShowsDamage (g.I.Ident.meaning c.args.ident.now) (ReadsPackets c.args.words.now (g.S.Source.left c.args.source.now) (g.S.Source.left c.feed.new.source)) (ChecksStore c.args.words.now (g.S.Source.left c.args.source.now) (g.S.Source.left c.feed.new.source)) (MigratesStore c.args.words.now (g.S.Source.left c.args.source.now) (g.S.Source.left c.feed.new.source))) (IsFirstLine (g.I.Ident.meaning c.args.ident.now)) IsOldStore IsLine (Step (g.I.Ident.meaning c.args.ident.now)) (bounds (g.I.Ident.meaning c.args.ident.now)) (changes (g.I.Ident.meaning c.args.ident.now)) takes_last is_spelled is_merging is_checking c.args.words.now c.in-Ok.reads c.in-Ok.ensures (g.S.Source.left c.args.source.now) (g.S.Source.left c.feed.new.source) c.in-Ok-feed.input.items c.in-Ok-feed.ensures.all), c.in-Ok-script_of.ensures, reads)) c.run_script.ensures)
