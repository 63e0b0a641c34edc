use Rattle.std.specs.Prelude.{IfSome}
use Rattle.std.proofs.Common.{subst}
use Rattle.mtn_ports.specs.Kept.{with_all}
use Rattle.mtn_history.specs.Logs.{IsLogged}
use Rattle.mtn_history.proofs.MarkedLemmas.{log_found, log_is}
use Rattle.mtn_history.proofs.draft.Draft.log_at.Goals as goal

pub returns-in-Some-clause-found : goal.returns-in-Some-clause-found
returns-in-Some-clause-found g c f s d lt =
    log_is f (g.K.Keeper.contents c.args.self.now.keeper.now) c.args.self.now.pending s d c.args.at c.in-Some.log
    (subst (λ o. IfSome (g.K.Keeper.contents c.args.self.now.keeper.now) (λ x. IfSome o (IsLogged (with_all x c.args.self.now.pending.batch) c.args.at))) c.in-Some.is c.recall_log.ensures.right) lt

pub returns-in-None-clause-found : goal.returns-in-None-clause-found
returns-in-None-clause-found g c f s d lt =
    log_found f (g.K.Keeper.contents c.read_log_at.new.self.keeper.now) c.args.self.now.pending s d c.args.at c.read_log_at.result c.read_log_at.ensures.read lt
