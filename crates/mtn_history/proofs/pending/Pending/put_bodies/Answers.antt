-- The three records behind both of table 1.
use Rattle.mtn_history.proofs.Extending.{behind_metas, in_front_of}
use Rattle.mtn_history.proofs.pending.Pending.put_bodies.Goals as goal

pub returns-clause-ok : goal.returns-clause-ok
returns-clause-ok c =
    behind_metas c.args.self.now (record { id = c.args.id.0; text = c.args.text.now }) c.args.log c.args.roster c.in_ok-text.text c.put_meta.new.batch c.put_records.new.batch
    c.in_ok-put_meta.ensures.ok c.in_ok-put_records.ensures.ok c.in_ok-text.ensures

pub returns-clause-front : goal.returns-clause-front
returns-clause-front c = in_front_of c.args.self.now.batch c.put_meta.new.batch c.put_records.new.batch c.put_meta.ensures.front c.put_meta.ensures.longer c.put_records.ensures.front
