use Rattle.mtn_history.proofs.MeetingLemmas.{once_left}
use Rattle.mtn_history.proofs.draft.Draft.rosters_from.Goals as goal

pub returns-in_ok-read_roster_at-in-Some-clause-once : goal.returns-in_ok-read_roster_at-in-Some-clause-once
returns-in_ok-read_roster_at-in-Some-clause-once g c =
    once_left (g.K.Keeper.contents c.read_roster_at.new.self.keeper.now) c.args.self.now.pending.batch c.args.left c.args.right (g.K.Keeper.reads c.args.self.now.keeper.now) (g.K.Keeper.reads c.read_roster_at.new.self.keeper.now) c.in_ok-read_roster_at-in-Some.ensures.along
