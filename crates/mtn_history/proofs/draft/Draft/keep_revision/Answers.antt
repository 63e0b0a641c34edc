use Rattle.std.specs.Prelude.{IfSome}
use Rattle.std.proofs.Common.{◌<◌, ◌^◌, refl, sym, subst}
use Rattle.mtn_ports.specs.Kept.{with_all}
use Rattle.mtn_history.specs.Records.{with_revision}
use Rattle.mtn_history.specs.Rosters.{Rebuilds}
use Rattle.mtn_history.proofs.Knowing.{revision_recalled, revision_remembered}
use Rattle.mtn_history.proofs.Remembering.{revision_counted}
use Rattle.mtn_history.proofs.draft.Draft.keep_revision.Goals as goal

pub invariant_of-self-in_default : goal.invariant_of-self-in_default
invariant_of-self-in_default g c = (
  revision_recalled (g.K.Keeper.contents c.self.inside.keeper.now) c.self.inside.pending c.put_revision.new.self (record { id = c.args.id.0; text = c.args.text.now }) c.args.log c.args.roster c.self.inside.cache
      (subst (λ d. d.pending.count < 2 ^ 63) (sym c.self.view_is) c.requires.room) c.in_ok-put_revision.ensures.ok c.self.invariant.0,
  revision_counted (g.K.Keeper.contents c.self.inside.keeper.now) c.self.inside.pending c.put_revision.new.self (record { id = c.args.id.0; text = c.args.text.now }) c.args.log c.args.roster
      (subst (λ d. d.pending.count < 2 ^ 63) (sym c.self.view_is) c.requires.room) c.in_ok-put_revision.ensures.ok c.self.invariant.1,
)

pub invariant_of-self-in-Ok : goal.invariant_of-self-in-Ok
invariant_of-self-in-Ok g c = (
  revision_remembered (g.K.Keeper.contents c.self.inside.keeper.now) c.self.inside.pending c.put_revision.new.self (record { id = c.args.id.0; text = c.args.text.now }) c.args.log c.args.roster c.self.inside.cache c.add_roster.new.self
      (record { at = c.self.inside.pending.count; rebuilt = c.in-Ok.rebuilt })
      (subst (λ d. d.pending.count < 2 ^ 63) (sym c.self.view_is) c.requires.room) c.in_ok-put_revision.ensures.ok refl c.add_roster.ensures.rosters c.add_roster.ensures.log
      (subst (λ r. IfSome (g.K.Keeper.contents c.self.inside.keeper.now) (λ x. Rebuilds (with_all x (with_revision c.self.inside.pending (record { id = c.args.id.0; text = c.args.text.now }) c.args.log c.args.roster).batch) c.self.inside.pending.count r))
      (sym c.in-Ok.ensures.ok)
      (subst (λ d. IfSome (g.K.Keeper.contents d.keeper.now) (λ x. Rebuilds (with_all x (with_revision d.pending (record { id = c.args.id.0; text = c.args.text.now }) c.args.log c.args.roster).batch) d.pending.count c.args.rebuilt)) (sym c.self.view_is) c.requires.right))
      c.self.invariant.0,
  revision_counted (g.K.Keeper.contents c.self.inside.keeper.now) c.self.inside.pending c.put_revision.new.self (record { id = c.args.id.0; text = c.args.text.now }) c.args.log c.args.roster
      (subst (λ d. d.pending.count < 2 ^ 63) (sym c.self.view_is) c.requires.room) c.in_ok-put_revision.ensures.ok c.self.invariant.1,
)
