-- The flag, and what differs behind it.
use Rattle.std.proofs.lemmas.Result.{on_ok_weaker}
use Rattle.mtn_records.proofs.Recording.{behind_flag}
use Rattle.mtn_records.proofs.rosters.RosterRecordField.write.Goals as goal

pub returns-in_ok-write-in-Delta-clause-ok : goal.returns-in_ok-write-in-Delta-clause-ok
returns-in_ok-write-in-Delta-clause-ok c =
    on_ok_weaker c.write_delta.result
    (behind_flag c.args.out.now.items c.write-in-Delta.new.out.items c.write_delta.new.out.items c.args.self.now c.in-Delta.base c.in-Delta.depth c.in-Delta.gone c.in-Delta.changed c.in-Delta.is c.in_ok-write-in-Delta.ensures.ok)
    c.write_delta.ensures.ok
