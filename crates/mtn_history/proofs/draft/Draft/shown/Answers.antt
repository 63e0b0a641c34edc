use Rattle.mtn_history.proofs.MeetingLemmas.{shown_unmade}
use Rattle.mtn_history.proofs.draft.Draft.shown.Goals as goal

pub returns-in-Bad-clause-damaged : goal.returns-in-Bad-clause-damaged
returns-in-Bad-clause-damaged g c = λ left right.
    shown_unmade (g.K.Keeper.contents c.roster_held.new.self.keeper.now) c.args.self.now.pending.batch left right c.args.unmade c.roster_held.result c.in-Bad.is c.roster_held.ensures.damaged
