use Rattle.std.specs.Prelude.{IfSome}
use Rattle.std.proofs.Common.{subst}
use Rattle.mtn_ports.specs.Kept.{with_all}
use Rattle.mtn_history.specs.Logs.{IsLogged}
use Rattle.mtn_history.proofs.Knowing.{log_recalled}
use Rattle.mtn_history.proofs.draft.Draft.recall_log.Goals as goal

pub returns-clause-right : goal.returns-clause-right
returns-clause-right g c =
    subst (λ d. IfSome (g.K.Keeper.contents d.keeper.now) (λ x. IfSome c.log.result (IsLogged (with_all x d.pending.batch) c.args.at))) c.self.view_is
    (log_recalled (g.K.Keeper.contents c.self.inside.keeper.now) c.self.inside.pending c.self.inside.cache c.args.at c.log.result c.log.ensures.noted c.self.invariant.0)
