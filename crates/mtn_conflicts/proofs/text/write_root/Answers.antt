-- One stanza of one line.
use Rattle.mtn_conflicts.proofs.Written.{root_is}
use Rattle.mtn_conflicts.proofs.text.write_root.Goals as goal

pub returns-in_ok-write_text_line : goal.returns-in_ok-write_text_line
returns-in_ok-write_text_line c = root_is c.args.is_missing c.args.out.now.items _ c.write_text_line.new.out.items c.if-is_missing.true c.in_ok-push.ensures.items c.in_ok-write_text_line.ensures.ok
