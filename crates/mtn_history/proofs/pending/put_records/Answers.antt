-- Record behind record.
use Rattle.mtn_history.proofs.Extending.{all_put}
use Rattle.mtn_history.proofs.pending.put_records.Goals as goal

pub returns-clause-ok : goal.returns-clause-ok
returns-clause-ok c =
    all_put c.args.at c.args.id.0 c.args.text c.args.log c.args.roster c.args.batch.now c.put_owned.new.self c.put_owned-2.new.self c.put_owned-3.new.self c.put.new.self
    c.as_slice.result.now c.to_be_bytes-key.result c.to_be_bytes.result c.in_ok-put_owned.ensures.ok c.in_ok-put_owned-2.ensures.ok c.in_ok-put_owned-3.ensures.ok c.in_ok-put.ensures.ok
    c.as_slice.ensures.value c.to_be_bytes-key.ensures c.to_be_bytes.ensures
