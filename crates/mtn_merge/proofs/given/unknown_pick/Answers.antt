-- Resolution by resolution.
use Rattle.std.proofs.Common.{◌≡◌, ◌∙◌, ℕ, List, sym, ap, subst, arith}
use Rattle.std.proofs.lemmas.List.{take_all}
use Rattle.mtn_model.specs.State.{State}
use Rattle.mtn_ports.proofs.KeptLemmas.{stays_trans}
use Rattle.mtn_history.specs.Stands.{IsFounded}
use Rattle.mtn_history.specs.declared.pending.Pending.{Pending}
use Rattle.mtn_merge.specs.Given.{first_unknown, unknown_in}
use Rattle.mtn_put_revision.proofs.Grounds.{back_plain}
use Rattle.mtn_merge.proofs.Picking.{at_item, first_here, first_past}
use Rattle.mtn_merge.proofs.given.unknown_pick.Goals as goal

pub returns-in_err-id-clause-stays : goal.returns-in_err-id-clause-stays
returns-in_err-id-clause-stays g c = stays_trans g.K.Keeper.contents g.K.Keeper.leaves g.K.Keeper.faults _ _ _ c.loop-resolution.invariant.stays c.unknown_of.ensures.stays

pub returns-in-Some-clause-stays : goal.returns-in-Some-clause-stays
returns-in-Some-clause-stays g c = stays_trans g.K.Keeper.contents g.K.Keeper.leaves g.K.Keeper.faults _ _ _ c.loop-resolution.invariant.stays c.unknown_of.ensures.stays

pub returns-in-Some-clause-found : goal.returns-in-Some-clause-found
returns-in-Some-clause-found g c = λ f s d.
    let told = g.K.Keeper.contents c.unknown_of.new.draft.keeper.now in
    let here = (subst (λ (p : Pending). (f : List ℕ → List ℕ) (s : State) → IsFounded f told p s → c.in_ok-id.field-0 ≡ unknown_in s.files c.resolution-item.result) c.loop-resolution.invariant.pending c.in_ok-id.ensures.found) f s d in
    first_here s.files c.args.resolutions.now c.loop-resolution.resolution-index c.resolution-item.result c.in-Some.id (at_item c.args.resolutions.now c.loop-resolution.resolution-index c.resolution-item.result c.resolution-item.result c.loop-resolution-test.true c.resolution-item.is)
    (c.loop-resolution.invariant.found f s (back_plain f (g.K.Keeper.contents c.loop-resolution.draft.keeper.now) told c.args.draft.now.pending c.loop-resolution.draft.pending s c.loop-resolution.invariant.pending c.unknown_of.ensures.stays.same d)) (sym c.in-Some.is ∙ here)

pub loop-resolution-preserved : goal.loop-resolution-preserved
loop-resolution-preserved g c = record {
  same_reference = c.unknown_of.ensures.same_reference ∙ c.loop-resolution.invariant.same_reference;
  stays = stays_trans g.K.Keeper.contents g.K.Keeper.leaves g.K.Keeper.faults _ _ _ c.loop-resolution.invariant.stays c.unknown_of.ensures.stays;
  pending = c.unknown_of.ensures.pending ∙ c.loop-resolution.invariant.pending;
  found = λ f s d.
      let told = g.K.Keeper.contents c.unknown_of.new.draft.keeper.now in
      let here = (subst (λ (p : Pending). (f : List ℕ → List ℕ) (s : State) → IsFounded f told p s → c.in_ok-id.field-0 ≡ unknown_in s.files c.resolution-item.result) c.loop-resolution.invariant.pending c.in_ok-id.ensures.found) f s d in
      first_past s.files c.args.resolutions.now c.loop-resolution.resolution-index c.resolution-item.result (at_item c.args.resolutions.now c.loop-resolution.resolution-index c.resolution-item.result c.resolution-item.result c.loop-resolution-test.true c.resolution-item.is)
      (c.loop-resolution.invariant.found f s (back_plain f (g.K.Keeper.contents c.loop-resolution.draft.keeper.now) told c.args.draft.now.pending c.loop-resolution.draft.pending s c.loop-resolution.invariant.pending c.unknown_of.ensures.stays.same d)) (sym c.in_default.is ∙ here);
}

pub returns-clause-found : goal.returns-clause-found
returns-clause-found g c = λ f s d. sym (ap (first_unknown s.files) (sym (take_all c.loop-resolution.resolution-index c.args.resolutions.now (omega (arith, c.loop-resolution-test.false)))) ∙ c.loop-resolution.invariant.found f s d)
