use Rattle.std.specs.Prelude.{IfSome}
use Rattle.std.proofs.Common.{◌<◌, sym, subst}
use Rattle.mtn_ports.specs.Kept.{with_all}
use Rattle.mtn_history.specs.Rosters.{Rebuilds}
use Rattle.mtn_history.proofs.Knowing.{roster_remembered}
use Rattle.mtn_history.proofs.draft.Draft.remember.Goals as goal

pub invariant_of-self : goal.invariant_of-self
invariant_of-self g c = (
  roster_remembered (g.K.Keeper.contents c.self.inside.keeper.now) c.self.inside.pending c.self.inside.cache c.add_roster.new.self (record { at = c.args.at; rebuilt = c.args.rebuilt })
      c.add_roster.ensures.rosters c.add_roster.ensures.log
      (subst (λ d. c.args.at < d.pending.count) (sym c.self.view_is) c.requires.below)
      (subst (λ d. IfSome (g.K.Keeper.contents d.keeper.now) (λ x. Rebuilds (with_all x d.pending.batch) c.args.at c.args.rebuilt.value)) (sym c.self.view_is) c.requires.right)
      c.self.invariant.0,
  c.self.invariant.1,
)
