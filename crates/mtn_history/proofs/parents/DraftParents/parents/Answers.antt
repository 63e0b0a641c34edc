-- The record at the position is that of the history.
use Rattle.mtn_history.proofs.Founding.{parents_of_told}
use Rattle.mtn_history.proofs.parents.DraftParents.parents.Goals as goal

pub returns-clause-told : goal.returns-clause-told
returns-clause-told g c =
    parents_of_told (g.K.Keeper.contents c.args.self.now.keeper.now) (g.K.Keeper.contents c.log_at.new.self.keeper.now) c.args.self.now.pending c.log_at.new.self.pending c.args.at c.in_ok-log_at.field-0
    c.in_ok-log_at.ensures.asks.pending c.in_ok-log_at.ensures.asks.stays.same c.requires c.in_ok-log_at.ensures.read
