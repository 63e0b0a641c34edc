use Rattle.std.proofs.Common.{refl}
use Rattle.mtn_frame.proofs.TopLemmas.{no_memory, source_failed, too_long, ran, read_as, feeds_as, known, long_as}
use Rattle.mtn_frame.proofs.top.run_frame.Goals as goal

pub returns-in_default : goal.returns-in_default
returns-in_default g c = no_memory (g.C.Commands.stands c.args.commands.now) (g.C.Commands.damages c.args.commands.now) (g.C.Commands.firsts c.args.commands.now) (g.C.Commands.refuses c.args.commands.now) g.C.Commands.lines (g.C.Commands.does c.args.commands.now) (g.C.Commands.bounds c.args.commands.now) (g.C.Commands.changes c.args.commands.now) g.C.Commands.takes g.C.Commands.spelled g.C.Commands.merging g.C.Commands.vouching c.args.words.now
    (g.K.Keeper.contents c.args.keeper.now) (g.S.Source.left c.args.source.now) (g.S.Source.left c.args.source.now) (g.O.Sink.written c.args.sink.now) (g.K.Keeper.faults c.args.keeper.now) (g.S.Source.faults c.args.source.now) (g.S.Source.faults c.args.source.now) (g.O.Sink.faults c.args.sink.now) (g.K.Keeper.reads c.args.keeper.now) (g.K.Keeper.leaves c.args.keeper.now) (λ _. refl)

pub returns-in-Err-Failed : goal.returns-in-Err-Failed
returns-in-Err-Failed g c = source_failed (g.C.Commands.stands c.args.commands.now) (g.C.Commands.damages c.args.commands.now) (g.C.Commands.firsts c.args.commands.now) (g.C.Commands.refuses c.args.commands.now) g.C.Commands.lines (g.C.Commands.does c.args.commands.now) (g.C.Commands.bounds c.args.commands.now) (g.C.Commands.changes c.args.commands.now) g.C.Commands.takes g.C.Commands.spelled g.C.Commands.merging g.C.Commands.vouching c.args.words.now
    (g.K.Keeper.contents c.args.keeper.now) (g.S.Source.left c.args.source.now) (g.S.Source.left c.feed.new.source) (g.O.Sink.written c.args.sink.now) (g.K.Keeper.faults c.args.keeper.now) (g.S.Source.faults c.args.source.now) (g.S.Source.faults c.feed.new.source) (g.O.Sink.faults c.args.sink.now) (g.K.Keeper.reads c.args.keeper.now) (g.K.Keeper.leaves c.args.keeper.now) (read_as (g.C.Commands.stands c.args.commands.now) (g.C.Commands.damages c.args.commands.now) (g.C.Commands.firsts c.args.commands.now) (g.C.Commands.refuses c.args.commands.now) g.C.Commands.lines (g.C.Commands.does c.args.commands.now) (g.C.Commands.bounds c.args.commands.now) (g.C.Commands.changes c.args.commands.now) g.C.Commands.takes g.C.Commands.spelled g.C.Commands.merging g.C.Commands.vouching c.args.words.now c.in-Ok.reads c.in-Ok.ensures (g.S.Source.left c.args.source.now) (g.S.Source.left c.feed.new.source) c.feed.ensures.unread) ((rw c.in-Err-Failed.field-0-is at c.in-Err-Failed.ensures.failed) refl) (rw c.in-Err-Failed.field-0-is at c.in-Err-Failed.ensures.limit) (known (g.C.Commands.stands c.args.commands.now) (g.C.Commands.damages c.args.commands.now) (g.C.Commands.firsts c.args.commands.now) (g.C.Commands.refuses c.args.commands.now) g.C.Commands.lines (g.C.Commands.does c.args.commands.now) (g.C.Commands.bounds c.args.commands.now) (g.C.Commands.changes c.args.commands.now) g.C.Commands.takes g.C.Commands.spelled g.C.Commands.merging g.C.Commands.vouching c.args.words.now c.in-Ok.reads c.in-Ok.ensures c.in-Err-Failed.ensures.reads)

pub returns-in-Err-TooLong : goal.returns-in-Err-TooLong
returns-in-Err-TooLong g c = too_long (g.C.Commands.stands c.args.commands.now) (g.C.Commands.damages c.args.commands.now) (g.C.Commands.firsts c.args.commands.now) (g.C.Commands.refuses c.args.commands.now) g.C.Commands.lines (g.C.Commands.does c.args.commands.now) (g.C.Commands.bounds c.args.commands.now) (g.C.Commands.changes c.args.commands.now) g.C.Commands.takes g.C.Commands.spelled g.C.Commands.merging g.C.Commands.vouching c.args.words.now
    (g.K.Keeper.contents c.args.keeper.now) (g.S.Source.left c.args.source.now) (g.S.Source.left c.feed.new.source) (g.O.Sink.written c.args.sink.now) (g.K.Keeper.faults c.args.keeper.now) (g.S.Source.faults c.args.source.now) (g.S.Source.faults c.feed.new.source) (g.O.Sink.faults c.args.sink.now) (g.K.Keeper.reads c.args.keeper.now) (g.K.Keeper.leaves c.args.keeper.now) (read_as (g.C.Commands.stands c.args.commands.now) (g.C.Commands.damages c.args.commands.now) (g.C.Commands.firsts c.args.commands.now) (g.C.Commands.refuses c.args.commands.now) g.C.Commands.lines (g.C.Commands.does c.args.commands.now) (g.C.Commands.bounds c.args.commands.now) (g.C.Commands.changes c.args.commands.now) g.C.Commands.takes g.C.Commands.spelled g.C.Commands.merging g.C.Commands.vouching c.args.words.now c.in-Ok.reads c.in-Ok.ensures (g.S.Source.left c.args.source.now) (g.S.Source.left c.feed.new.source) c.feed.ensures.unread) (long_as (g.C.Commands.stands c.args.commands.now) (g.C.Commands.damages c.args.commands.now) (g.C.Commands.firsts c.args.commands.now) (g.C.Commands.refuses c.args.commands.now) g.C.Commands.lines (g.C.Commands.does c.args.commands.now) (g.C.Commands.bounds c.args.commands.now) (g.C.Commands.changes c.args.commands.now) g.C.Commands.takes g.C.Commands.spelled g.C.Commands.merging g.C.Commands.vouching c.args.words.now c.in-Ok.reads c.in-Ok.ensures (g.S.Source.left c.args.source.now) (g.S.Source.left c.feed.new.source) (rw c.in-Err-TooLong.field-0-is at c.in-Err-TooLong.ensures.limit)) (known (g.C.Commands.stands c.args.commands.now) (g.C.Commands.damages c.args.commands.now) (g.C.Commands.firsts c.args.commands.now) (g.C.Commands.refuses c.args.commands.now) g.C.Commands.lines (g.C.Commands.does c.args.commands.now) (g.C.Commands.bounds c.args.commands.now) (g.C.Commands.changes c.args.commands.now) g.C.Commands.takes g.C.Commands.spelled g.C.Commands.merging g.C.Commands.vouching c.args.words.now c.in-Ok.reads c.in-Ok.ensures c.in-Err-TooLong.ensures.reads)

pub returns-in-Err-NoMemory : goal.returns-in-Err-NoMemory
returns-in-Err-NoMemory g c = no_memory (g.C.Commands.stands c.args.commands.now) (g.C.Commands.damages c.args.commands.now) (g.C.Commands.firsts c.args.commands.now) (g.C.Commands.refuses c.args.commands.now) g.C.Commands.lines (g.C.Commands.does c.args.commands.now) (g.C.Commands.bounds c.args.commands.now) (g.C.Commands.changes c.args.commands.now) g.C.Commands.takes g.C.Commands.spelled g.C.Commands.merging g.C.Commands.vouching c.args.words.now
    (g.K.Keeper.contents c.args.keeper.now) (g.S.Source.left c.args.source.now) (g.S.Source.left c.feed.new.source) (g.O.Sink.written c.args.sink.now) (g.K.Keeper.faults c.args.keeper.now) (g.S.Source.faults c.args.source.now) (g.S.Source.faults c.feed.new.source) (g.O.Sink.faults c.args.sink.now) (g.K.Keeper.reads c.args.keeper.now) (g.K.Keeper.leaves c.args.keeper.now) (read_as (g.C.Commands.stands c.args.commands.now) (g.C.Commands.damages c.args.commands.now) (g.C.Commands.firsts c.args.commands.now) (g.C.Commands.refuses c.args.commands.now) g.C.Commands.lines (g.C.Commands.does c.args.commands.now) (g.C.Commands.bounds c.args.commands.now) (g.C.Commands.changes c.args.commands.now) g.C.Commands.takes g.C.Commands.spelled g.C.Commands.merging g.C.Commands.vouching c.args.words.now c.in-Ok.reads c.in-Ok.ensures (g.S.Source.left c.args.source.now) (g.S.Source.left c.feed.new.source) c.feed.ensures.unread)

pub returns-in-Err : goal.returns-in-Err
returns-in-Err g c = no_memory (g.C.Commands.stands c.args.commands.now) (g.C.Commands.damages c.args.commands.now) (g.C.Commands.firsts c.args.commands.now) (g.C.Commands.refuses c.args.commands.now) g.C.Commands.lines (g.C.Commands.does c.args.commands.now) (g.C.Commands.bounds c.args.commands.now) (g.C.Commands.changes c.args.commands.now) g.C.Commands.takes g.C.Commands.spelled g.C.Commands.merging g.C.Commands.vouching c.args.words.now
    (g.K.Keeper.contents c.args.keeper.now) (g.S.Source.left c.args.source.now) (g.S.Source.left c.feed.new.source) (g.O.Sink.written c.args.sink.now) (g.K.Keeper.faults c.args.keeper.now) (g.S.Source.faults c.args.source.now) (g.S.Source.faults c.feed.new.source) (g.O.Sink.faults c.args.sink.now) (g.K.Keeper.reads c.args.keeper.now) (g.K.Keeper.leaves c.args.keeper.now) (read_as (g.C.Commands.stands c.args.commands.now) (g.C.Commands.damages c.args.commands.now) (g.C.Commands.firsts c.args.commands.now) (g.C.Commands.refuses c.args.commands.now) g.C.Commands.lines (g.C.Commands.does c.args.commands.now) (g.C.Commands.bounds c.args.commands.now) (g.C.Commands.changes c.args.commands.now) g.C.Commands.takes g.C.Commands.spelled g.C.Commands.merging g.C.Commands.vouching c.args.words.now c.in-Ok.reads c.in-Ok.ensures (g.S.Source.left c.args.source.now) (g.S.Source.left c.feed.new.source) c.feed.ensures.unread)

pub returns-in-Ok-script_of : goal.returns-in-Ok-script_of
returns-in-Ok-script_of g c =
    ran (g.C.Commands.stands c.args.commands.now) (g.C.Commands.damages c.args.commands.now) (g.C.Commands.firsts c.args.commands.now) (g.C.Commands.refuses c.args.commands.now) g.C.Commands.lines (g.C.Commands.does c.args.commands.now) (g.C.Commands.bounds c.args.commands.now) (g.C.Commands.changes c.args.commands.now) g.C.Commands.takes g.C.Commands.spelled g.C.Commands.merging g.C.Commands.vouching c.args.words.now
    g.K.Keeper.contents g.K.Keeper.leaves g.K.Keeper.faults g.K.Keeper.reads c.args.keeper.now c.run_script.new.keeper (g.S.Source.left c.args.source.now) (g.S.Source.left c.feed.new.source) (g.O.Sink.written c.args.sink.now) (g.O.Sink.written c.run_script.new.sink) (g.S.Source.faults c.args.source.now) (g.S.Source.faults c.feed.new.source) (g.O.Sink.faults c.args.sink.now) (g.O.Sink.faults c.run_script.new.sink)
    c.in-Ok-feed.input.items c.in-Ok-script_of.script c.run_script.result (feeds_as (g.C.Commands.stands c.args.commands.now) (g.C.Commands.damages c.args.commands.now) (g.C.Commands.firsts c.args.commands.now) (g.C.Commands.refuses c.args.commands.now) g.C.Commands.lines (g.C.Commands.does c.args.commands.now) (g.C.Commands.bounds c.args.commands.now) (g.C.Commands.changes c.args.commands.now) g.C.Commands.takes g.C.Commands.spelled g.C.Commands.merging g.C.Commands.vouching c.args.words.now c.in-Ok.reads c.in-Ok.ensures (g.S.Source.left c.args.source.now) (g.S.Source.left c.feed.new.source) c.in-Ok-feed.input.items c.in-Ok-feed.ensures.all) c.in-Ok-feed.ensures.limit (read_as (g.C.Commands.stands c.args.commands.now) (g.C.Commands.damages c.args.commands.now) (g.C.Commands.firsts c.args.commands.now) (g.C.Commands.refuses c.args.commands.now) g.C.Commands.lines (g.C.Commands.does c.args.commands.now) (g.C.Commands.bounds c.args.commands.now) (g.C.Commands.changes c.args.commands.now) g.C.Commands.takes g.C.Commands.spelled g.C.Commands.merging g.C.Commands.vouching c.args.words.now c.in-Ok.reads c.in-Ok.ensures (g.S.Source.left c.args.source.now) (g.S.Source.left c.feed.new.source) c.feed.ensures.unread) c.in-Ok-script_of.ensures c.run_script.ensures
