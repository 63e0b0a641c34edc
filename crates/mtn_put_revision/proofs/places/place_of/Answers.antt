use Rattle.std.proofs.Common.{refl, sym, subst}
use Rattle.std.specs.Prelude.{drop, IfSome, ◌<◌}
use Rattle.mtn_ports.specs.Kept.{with_all}
use Rattle.mtn_history.specs.Places.{IsPlaced}
use Rattle.mtn_put_revision.proofs.Grounds.{at_place}
use Rattle.mtn_put_revision.proofs.places.place_of.Goals as goal

pub returns-in-Some-clause-below : goal.returns-in-Some-clause-below
returns-in-Some-clause-below g c = subst (λ o. IfSome o (λ p. p < c.args.draft.now.pending.count)) c.in-Some.is c.in_ok-at.ensures.below

pub returns-in-Some-clause-placed : goal.returns-in-Some-clause-placed
returns-in-Some-clause-placed g c = λ f s d.
    sym (at_place f (g.K.Keeper.contents c.placed.new.self.keeper.now) c.args.draft.now.pending s d c.args.parent _ (drop 8 c.placed.new.body.items)
    (subst (λ o. IfSome (g.K.Keeper.contents c.placed.new.self.keeper.now) (λ x. IsPlaced (with_all x c.args.draft.now.pending.batch) c.args.draft.now.pending.count c.args.parent o (drop 8 c.placed.new.body.items))) c.in-Some.is c.in_ok-at.ensures.read))

pub returns-in-None-clause-refused : goal.returns-in-None-clause-refused
returns-in-None-clause-refused g c = λ f s d. (
  refl,
  sym (at_place f (g.K.Keeper.contents c.placed.new.self.keeper.now) c.args.draft.now.pending s d c.args.parent _ (drop 8 c.placed.new.body.items)
      (subst (λ o. IfSome (g.K.Keeper.contents c.placed.new.self.keeper.now) (λ x. IsPlaced (with_all x c.args.draft.now.pending.batch) c.args.draft.now.pending.count c.args.parent o (drop 8 c.placed.new.body.items))) c.in-None.is c.in_ok-at.ensures.read)),
)
