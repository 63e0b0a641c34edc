-- Each text is behind the one before.
use Rattle.std.proofs.lemmas.Result.{on_ok_weaker}
use Rattle.mtn_records.specs.Fields.{number_text}
use Rattle.mtn_records.specs.Entries.{entries_text}
use Rattle.mtn_records.specs.Records.{byte_text, numbers_text}
use Rattle.mtn_records.proofs.Recording.{four}
use Rattle.mtn_records.proofs.rosters.write_delta.Goals as goal

pub returns-clause-ok : goal.returns-clause-ok
returns-clause-ok c =
    on_ok_weaker c.write-3.result
    (four c.args.out.now.items (number_text c.args.base) (byte_text c.args.depth) (numbers_text c.args.gone.now) (entries_text c.args.changed.now)
    c.write.new.out.items c.write-2.new.out.items c.write_list.new.out.items c.write-3.new.out.items
    c.in_ok-write.ensures.ok c.in_ok-write-2.ensures.ok c.in_ok-write_list.ensures.ok)
    c.write-3.ensures.ok
