use Rattle.mtn_history.proofs.Accepted.{logged_told}
use Rattle.mtn_put_revision.proofs.keep.put_records.Goals as goal

pub keep_revision-requires-clause-right : goal.keep_revision-requires-clause-right
keep_revision-requires-clause-right g c = c.requires.right c.in_ok-entry.log

pub remember_log-requires-clause-right : goal.remember_log-requires-clause-right
remember_log-requires-clause-right g c =
    logged_told (g.K.Keeper.contents c.keep_revision.new.self.keeper.now) c.args.draft.now.pending c.keep_revision.new.self.pending (record { id = c.args.id.0; text = c.args.text.now }) c.in_ok-entry.log c.args.fresh.body
    c.count.result c.in_ok-entry.entry c.in_ok-keep_revision.ensures.ok c.count.ensures c.in_ok-entry.ensures.record_of
