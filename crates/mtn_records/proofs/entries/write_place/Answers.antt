-- What an error leaves begins with what was there.
use Rattle.std.proofs.Common.{ap, ◌∙◌, ◌++◌}
use Rattle.std.proofs.lemmas.Result.{on_ok_weaker, on_err_weaker}
use Rattle.mtn_records.specs.Fields.{flag_text, number_text}
use Rattle.mtn_records.specs.Entries.{is_file, below_text}
use Rattle.mtn_records.proofs.Reading.{front_kept}
use Rattle.mtn_records.proofs.Recording.{two, three}
use Rattle.mtn_records.proofs.entries.write_place.Goals as goal

pub returns-clause-ok : goal.returns-clause-ok
returns-clause-ok c =
    let kind = c.in_ok-write.ensures.ok ∙ ap (λ f. c.args.out.now.items ++ flag_text f) c.is_file.ensures in
    on_ok_weaker c.write_below.result
    (three c.args.out.now.items (flag_text (is_file c.args.entry.now.body)) (number_text c.args.entry.now.parent) (below_text c.args.entry.now)
    c.write.new.out.items c.write-2.new.out.items c.write_below.new.out.items kind c.in_ok-write-2.ensures.ok)
    c.write_below.ensures.ok

pub returns-clause-err : goal.returns-clause-err
returns-clause-err c =
    let front = two c.args.out.now.items (flag_text c.is_file.result) (number_text c.args.entry.now.parent) c.write.new.out.items c.write-2.new.out.items c.in_ok-write.ensures.ok c.in_ok-write-2.ensures.ok in
    on_err_weaker c.write_below.result
    (front_kept c.args.out.now.items (flag_text c.is_file.result ++ number_text c.args.entry.now.parent) c.write-2.new.out.items c.write_below.new.out.items front)
    c.write_below.ensures.err
