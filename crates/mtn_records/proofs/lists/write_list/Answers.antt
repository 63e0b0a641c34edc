-- The items are behind their count.
use Rattle.std.proofs.Common.{length}
use Rattle.std.proofs.lemmas.Result.{on_ok_weaker, on_err_weaker}
use Rattle.mtn_records.specs.Fields.{number_text}
use Rattle.mtn_records.proofs.Reading.{front_kept}
use Rattle.mtn_records.proofs.Turns.{list_behind}
use Rattle.mtn_records.proofs.lists.write_list.Goals as goal

pub returns-clause-ok : goal.returns-clause-ok
returns-clause-ok g c =
    on_ok_weaker c.write_items.result
    (list_behind g.T.Field.text c.args.items.now c.as_slice-items.result.now c.args.out.now.items c.write.new.out.items c.write_items.new.out.items c.as_slice-items.ensures c.in_ok-write.ensures.ok)
    c.write_items.ensures.ok

pub returns-clause-err : goal.returns-clause-err
returns-clause-err g c =
    on_err_weaker c.write_items.result
    (front_kept c.args.out.now.items (number_text (length c.as_slice-items.result.now)) c.write.new.out.items c.write_items.new.out.items c.in_ok-write.ensures.ok)
    c.write_items.ensures.err
