-- What an error leaves begins with what was there.
use Rattle.std.proofs.lemmas.Result.{on_ok_weaker, on_err_weaker}
use Rattle.mtn_records.specs.Fields.{number_text}
use Rattle.mtn_records.specs.Entries.{birth_text}
use Rattle.mtn_records.proofs.Reading.{front_kept}
use Rattle.mtn_records.proofs.Recording.{two}
use Rattle.mtn_records.proofs.entries.write_head.Goals as goal

pub returns-clause-ok : goal.returns-clause-ok
returns-clause-ok c =
    on_ok_weaker c.write_birth.result
    (two c.args.out.now.items (number_text c.args.entry.now.number) (birth_text c.args.entry.now) c.write.new.out.items c.write_birth.new.out.items c.in_ok-write.ensures.ok)
    c.write_birth.ensures.ok

pub returns-clause-err : goal.returns-clause-err
returns-clause-err c =
    on_err_weaker c.write_birth.result
    (front_kept c.args.out.now.items (number_text c.args.entry.now.number) c.write.new.out.items c.write_birth.new.out.items c.in_ok-write.ensures.ok)
    c.write_birth.ensures.err
