-- Edge by edge.
use Rattle.std.proofs.Common.{◌≡◌, ◌<◌, ◌∙◌, ℕ, List, Some, None, length, length-append, [], ◌∷◌, refl, sym, ap, subst, arith}
use Rattle.std.specs.Prelude.{All}
use Rattle.std.proofs.lemmas.List.{take_all}
use Rattle.std.proofs.lemmas.List.Elements.{All-nil, All-more}
use Rattle.std.proofs.lemmas.Result.{err_from_is_err_and}
use Rattle.mtn_changes.specs.declared.change.Edge.{Edge}
use Rattle.mtn_put_revision.proofs.Grounds.{moved}
use Rattle.mtn_replay.specs.Making.{place_of}
use Rattle.mtn_model.specs.State.{State}
use Rattle.mtn_ports.proofs.KeptLemmas.{stays_trans, stays_itself}
use Rattle.mtn_history.specs.Stands.{IsFounded}
use Rattle.mtn_history.specs.declared.pending.Pending.{Pending}
use Rattle.mtn_history.proofs.Founding.{back}
use Rattle.mtn_put_revision.specs.Finding.{IsUnknown}
use Rattle.mtn_put_revision.proofs.Looking.{at_item, all_snoc, parents_more, parents_same, parents_end, lost_begin, lost_more, lost_same, lost_all, lost_at}
use Rattle.mtn_put_revision.proofs.places.places_of.Goals as goal
use Rattle.mtn_put_revision.proofs.places.places_of.Goals.{in-Some+in_ok-place_of+in_ok-push, in_default}

pub loop-edge-init : goal.loop-edge-init
loop-edge-init g c = record { same_reference = refl; stays = stays_itself g.K.Keeper.contents g.K.Keeper.leaves g.K.Keeper.faults c.args.draft.now.keeper.now; pending = refl; reads = omega arith; few = omega (arith, ap length c.new-places.ensures.items); below = λ k d lt. absurd (omega (arith, lt, ap length c.new-places.ensures.items)); none = λ e. All-nil (λ (e : Edge). e.parent ≡ None); places = λ f s d. c.new-places.ensures.items; known = λ f s d. lost_begin d.stands.history }

pub returns-in_err-place_of-clause-stays : goal.returns-in_err-place_of-clause-stays
returns-in_err-place_of-clause-stays g c = stays_trans g.K.Keeper.contents g.K.Keeper.leaves g.K.Keeper.faults _ _ _ c.loop-edge.invariant.stays c.place_of.ensures.stays

pub returns-in_err-push-clause-stays : goal.returns-in_err-push-clause-stays
returns-in_err-push-clause-stays g c = stays_trans g.K.Keeper.contents g.K.Keeper.leaves g.K.Keeper.faults _ _ _ c.loop-edge.invariant.stays c.place_of.ensures.stays

pub returns-in_err-place_of-clause-refused : goal.returns-in_err-place_of-clause-refused
returns-in_err-place_of-clause-refused g c = λ f s d.
    let told = g.K.Keeper.contents c.place_of.new.draft.keeper.now in
    let p = err_from_is_err_and c.from_residual.result c.from_residual.ensures.1 in
    let unknown = moved (λ (q : Pending). (f : List ℕ → List ℕ) (s : State) → (d : IsFounded f told q s) → IsUnknown d.stands.history c.in-Some.parent c.in_err-place_of.field-0.0) c.loop-edge.draft.pending c.args.draft.now.pending c.loop-edge.invariant.pending c.in_err-place_of.ensures.refused f s d in
    rw (p.1, p.2) (lost_at d.stands.history c.args.edges.now c.loop-edge.edge-index c.edge-item.result c.in-Some.parent c.in_err-place_of.field-0.0
    (at_item c.args.edges.now c.loop-edge.edge-index c.edge-item.result c.edge-item.result c.loop-edge-test.true c.edge-item.is) c.in-Some.is
    (c.loop-edge.invariant.known f s (back f (g.K.Keeper.contents c.loop-edge.draft.keeper.now) told c.args.draft.now.pending s c.place_of.ensures.stays.same d)) unknown)

pub loop-edge-preserved : goal.loop-edge-preserved
loop-edge-preserved g c = elim c.match-edge.branch [
  | in-Some+in_ok-place_of+in_ok-push w ↦ rw (w.draft-is, w.places-is) (record {
    same_reference = w.place_of.ensures.same_reference ∙ c.loop-edge.invariant.same_reference;
    stays = stays_trans g.K.Keeper.contents g.K.Keeper.leaves g.K.Keeper.faults _ _ _ c.loop-edge.invariant.stays w.place_of.ensures.stays;
    pending = w.place_of.ensures.pending ∙ c.loop-edge.invariant.pending;
    reads = omega (arith, w.place_of.ensures.reads, c.loop-edge.invariant.reads);
    few = omega (arith, ap length w.in_ok-push.ensures.items, length-append c.loop-edge.places.items (w.in_ok-place_of.field-0 ∷ []), c.loop-edge.invariant.few);
    below = subst (λ (ps : List ℕ). All (λ p. p < c.args.draft.now.pending.count) ps) (sym w.in_ok-push.ensures.items)
        (all_snoc (λ p. p < c.args.draft.now.pending.count) c.loop-edge.places.items w.in_ok-place_of.field-0 c.loop-edge.invariant.below
        (subst (λ (q : Pending). w.in_ok-place_of.field-0 < q.count) c.loop-edge.invariant.pending w.in_ok-place_of.ensures.below));
    none = λ e. absurd (let long = ap length (sym w.in_ok-push.ensures.items ∙ e) in omega (arith, long, length-append c.loop-edge.places.items (w.in_ok-place_of.field-0 ∷ [])));
    places = λ f s d. w.in_ok-push.ensures.items ∙ parents_more d.stands.history c.args.edges.now c.loop-edge.edge-index c.edge-item.result w.in-Some.parent w.in_ok-place_of.field-0 c.loop-edge.places.items
        (at_item c.args.edges.now c.loop-edge.edge-index c.edge-item.result c.edge-item.result c.loop-edge-test.true c.edge-item.is) w.in-Some.is
        (moved (λ (q : Pending). (f : List ℕ → List ℕ) (s : State) → (d : IsFounded f (g.K.Keeper.contents w.place_of.new.draft.keeper.now) q s) → place_of d.stands.history w.in-Some.parent ≡ Some w.in_ok-place_of.field-0) c.loop-edge.draft.pending c.args.draft.now.pending c.loop-edge.invariant.pending w.in_ok-place_of.ensures.placed f s d)
        (c.loop-edge.invariant.places f s (back f (g.K.Keeper.contents c.loop-edge.draft.keeper.now) (g.K.Keeper.contents w.place_of.new.draft.keeper.now) c.args.draft.now.pending s w.place_of.ensures.stays.same d));
    known = λ f s d. lost_more d.stands.history c.args.edges.now c.loop-edge.edge-index c.edge-item.result w.in-Some.parent w.in_ok-place_of.field-0
        (at_item c.args.edges.now c.loop-edge.edge-index c.edge-item.result c.edge-item.result c.loop-edge-test.true c.edge-item.is) w.in-Some.is
        (moved (λ (q : Pending). (f : List ℕ → List ℕ) (s : State) → (d : IsFounded f (g.K.Keeper.contents w.place_of.new.draft.keeper.now) q s) → place_of d.stands.history w.in-Some.parent ≡ Some w.in_ok-place_of.field-0) c.loop-edge.draft.pending c.args.draft.now.pending c.loop-edge.invariant.pending w.in_ok-place_of.ensures.placed f s d)
        (c.loop-edge.invariant.known f s (back f (g.K.Keeper.contents c.loop-edge.draft.keeper.now) (g.K.Keeper.contents w.place_of.new.draft.keeper.now) c.args.draft.now.pending s w.place_of.ensures.stays.same d));
  })
  | in_default w ↦ rw (w.draft-is, w.places-is) (record {
    same_reference = c.loop-edge.invariant.same_reference;
    stays = c.loop-edge.invariant.stays;
    pending = c.loop-edge.invariant.pending;
    reads = omega (arith, c.loop-edge.invariant.reads);
    few = omega (arith, c.loop-edge.invariant.few);
    below = c.loop-edge.invariant.below;
    none = λ e. All-more (λ (x : Edge). x.parent ≡ None) c.args.edges.now c.loop-edge.edge-index c.edge-item.result c.loop-edge-test.true (c.loop-edge.invariant.none e)
        (subst (λ (x : Edge). x.parent ≡ None) c.edge-item.is w.in_default.is);
    places = λ f s d. parents_same d.stands.history c.args.edges.now c.loop-edge.edge-index c.edge-item.result c.loop-edge.places.items
        (at_item c.args.edges.now c.loop-edge.edge-index c.edge-item.result c.edge-item.result c.loop-edge-test.true c.edge-item.is) w.in_default.is (c.loop-edge.invariant.places f s d);
    known = λ f s d. lost_same d.stands.history c.args.edges.now c.loop-edge.edge-index c.edge-item.result
        (at_item c.args.edges.now c.loop-edge.edge-index c.edge-item.result c.edge-item.result c.loop-edge-test.true c.edge-item.is) w.in_default.is (c.loop-edge.invariant.known f s d);
  })
]

pub returns-clause-none : goal.returns-clause-none
returns-clause-none g c = λ e. subst (All (λ (x : Edge). x.parent ≡ None)) (take_all c.loop-edge.edge-index c.args.edges.now (omega (arith, c.loop-edge-test.false))) (c.loop-edge.invariant.none e)

pub returns-clause-places : goal.returns-clause-places
returns-clause-places g c = λ f s d. parents_end d.stands.history c.args.edges.now c.loop-edge.edge-index c.loop-edge.places.items (omega (arith, c.loop-edge-test.false)) (c.loop-edge.invariant.places f s d)

pub returns-clause-known : goal.returns-clause-known
returns-clause-known g c = λ f s d. lost_all d.stands.history c.args.edges.now c.loop-edge.edge-index (omega (arith, c.loop-edge-test.false)) (c.loop-edge.invariant.known f s d)
