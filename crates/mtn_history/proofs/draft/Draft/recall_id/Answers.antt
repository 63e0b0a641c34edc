use Rattle.std.specs.Prelude.{IfSome}
use Rattle.std.proofs.Common.{subst}
use Rattle.mtn_ports.specs.Kept.{with_all}
use Rattle.mtn_history.specs.Logs.{IsLogged}
use Rattle.mtn_history.proofs.MarkedLemmas.{named_is}
use Rattle.mtn_history.proofs.draft.Draft.recall_id.Goals as goal

pub returns-in-Some : goal.returns-in-Some
returns-in-Some g c = record {
  found = λ f s d lt.
      named_is f (g.K.Keeper.contents c.args.self.now.keeper.now) c.args.self.now.pending s d c.args.at c.in-Some.log lt
      (subst (λ o. IfSome (g.K.Keeper.contents c.args.self.now.keeper.now) (λ x. IfSome o (IsLogged (with_all x c.args.self.now.pending.batch) c.args.at))) c.in-Some.is c.recall_log.ensures.right);
}
