use Rattle.std.proofs.Common.{[]}
use Rattle.std.specs.Prelude.{IfSome}
use Rattle.mtn_ports.specs.Kept.{with_all}
use Rattle.mtn_history.specs.Rosters.{EndsAt}
use Rattle.mtn_history.proofs.Knowing.{told_each}
use Rattle.mtn_history.proofs.draft.Draft.end_at.Goals as goal

pub returns-in-None-clause-ends : goal.returns-in-None-clause-ends
returns-in-None-clause-ends g c =
    told_each (g.K.Keeper.contents c.args.self.now.keeper.now) (λ d. IfSome c.meeting_at.result (EndsAt (with_all d c.args.self.now.pending.batch) c.args.at c.args.top c.args.beside.now []))
    (λ d. c.meeting_at.ensures.met (with_all d c.args.self.now.pending.batch))
