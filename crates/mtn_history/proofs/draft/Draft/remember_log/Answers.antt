use Rattle.std.specs.Prelude.{IfSome}
use Rattle.std.proofs.Common.{◌<◌, sym, subst}
use Rattle.mtn_ports.specs.Kept.{with_all}
use Rattle.mtn_history.specs.Logs.{IsLogged}
use Rattle.mtn_history.proofs.Knowing.{log_remembered}
use Rattle.mtn_history.proofs.draft.Draft.remember_log.Goals as goal

pub invariant_of-self : goal.invariant_of-self
invariant_of-self g c = (
  log_remembered (g.K.Keeper.contents c.self.inside.keeper.now) c.self.inside.pending c.self.inside.cache c.add_log.new.self c.args.at c.args.log.now c.add_log.ensures.rosters c.add_log.ensures.log
      (subst (λ d. c.args.at < d.pending.count) (sym c.self.view_is) c.requires.below)
      (subst (λ d. IfSome (g.K.Keeper.contents d.keeper.now) (λ x. IsLogged (with_all x d.pending.batch) c.args.at c.args.log.now)) (sym c.self.view_is) c.requires.right)
      c.self.invariant.0,
  c.self.invariant.1,
)
