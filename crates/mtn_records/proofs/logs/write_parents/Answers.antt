-- Each text is behind the one before.
use Rattle.std.proofs.lemmas.Result.{on_ok_weaker}
use Rattle.mtn_records.proofs.Recording.{behind_two}
use Rattle.mtn_records.proofs.logs.write_parents.Goals as goal

pub returns-in_ok-write-in-Two-2-clause-ok : goal.returns-in_ok-write-in-Two-2-clause-ok
returns-in_ok-write-in-Two-2-clause-ok c =
    on_ok_weaker c.write-in-Two-3.result
    (behind_two c.args.out.now.items c.write-in-Two.new.out.items c.write-in-Two-2.new.out.items c.write-in-Two-3.new.out.items c.args.parents c.in-Two.first c.in-Two.second c.in-Two.is
    c.in_ok-write-in-Two.ensures.ok c.in_ok-write-in-Two-2.ensures.ok)
    c.write-in-Two-3.ensures.ok
