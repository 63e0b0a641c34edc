-- The parents, and what is made over them.
use Rattle.std.proofs.Common.{◌≡◌, ◌∙◌, ℕ, List, None, sym, subst, arith, ◌≤◌, ◌+◌, length}
use Rattle.std.specs.Prelude.{IfErr, OnOk}
use Rattle.std.proofs.lemmas.Result.{err_from_is_err_and}
use Rattle.mtn_changes.specs.declared.change.Edge.{Edge}
use Rattle.mtn_replay.specs.Making.{parents_of, unknown_parent, new_contents}
use Rattle.mtn_model.specs.State.{State}
use Rattle.mtn_ports.proofs.KeptLemmas.{stays_trans}
use Rattle.mtn_history.specs.Stands.{IsFounded}
use Rattle.mtn_history.specs.declared.pending.Pending.{Pending}
use Rattle.mtn_history.proofs.Founding.{back, counted}
use Rattle.mtn_put_revision.specs.Finding.{IsRefusal, made_refusal_of}
use Rattle.mtn_put_revision.specs.Keeping.{Accepts, AreOn, IsNew}
use Rattle.mtn_put_revision.proofs.Deciding.{accepted_new, err_refused, has_room, refused_made, refused_parents}
use Rattle.mtn_put_revision.proofs.Grounds.{moved}
use Rattle.mtn_put_revision.proofs.Planning.{planned_on}
use Rattle.mtn_ports.specs.Ident.{MakesIds}
use Rattle.mtn_history_laws.specs.History.{parents_at}
use Rattle.mtn_put_revision.specs.Reads.{IsWindow}
use Rattle.mtn_put_revision.proofs.Counting.{two_edges}
use Rattle.mtn_put_revision.proofs.put.accept.Goals as goal

pub returns-in_err-places-clause-refused : goal.returns-in_err-places-clause-refused
returns-in_err-places-clause-refused g c = λ s d.
    let f = g.I.Ident.meaning c.args.ident.now in
    let told = g.K.Keeper.contents c.places_of.new.draft.keeper.now in
    let p = err_from_is_err_and c.from_residual.result c.from_residual.ensures.1 in
    let refusal = subst (λ (es : List Edge). IsRefusal (unknown_parent d.stands.history es) c.in_err-places.field-0.0) c.as_slice.ensures (c.in_err-places.ensures.refused f s d) in
    rw (p.1, p.2) (refused_parents f s.files d.stands.history c.args.fresh.now.id c.args.fresh.now.read.now c.in_err-places.field-0.0
    (has_room d.stands.history c.count-count.result (c.count-count.ensures ∙ counted f told c.args.draft.now.pending s d) (omega (arith, c.if-count-ge-MAX_LOG.false))) refusal)

pub over_places-requires-clause-parents : goal.over_places-requires-clause-parents
over_places-requires-clause-parents g c κs within =
    let told = g.K.Keeper.contents c.places_of.new.draft.keeper.now in
    let p = c.args.draft.now.pending in
    moved (λ (q : Pending). (f : List ℕ → List ℕ) (s : State) → (d : IsFounded f told q s) → AreOn d.stands.history c.args.fresh.now c.deref.result.now) p c.places_of.new.draft.pending (sym c.in_ok-places.ensures.pending)
    (λ f s d. record {
      new = c.requires.new f s (back f (g.K.Keeper.contents c.args.draft.now.keeper.now) told p s c.in_ok-places.ensures.stays.same d);
      known = subst (λ (es : List Edge). unknown_parent d.stands.history es ≡ None) c.as_slice.ensures (c.in_ok-places.ensures.known f s d);
      stand = c.deref.ensures.value ∙ subst (λ (es : List Edge). c.in_ok-places.places.items ≡ parents_of d.stands.history es) c.as_slice.ensures (c.in_ok-places.ensures.places f s d);
    })

pub over_places-requires-clause-planned : goal.over_places-requires-clause-planned
over_places-requires-clause-planned g c κs within =
    planned_on (g.I.Ident.meaning c.args.ident.now) (g.K.Keeper.contents c.args.draft.now.keeper.now) (g.K.Keeper.contents c.places_of.new.draft.keeper.now) c.args.draft.now.pending c.places_of.new.draft.pending c.args.fresh.now.text.now c.args.planned
    c.in_ok-places.ensures.stays.same c.in_ok-places.ensures.pending c.requires.planned

pub returns-clause-stays : goal.returns-clause-stays
returns-clause-stays g c = stays_trans g.K.Keeper.contents g.K.Keeper.leaves g.K.Keeper.faults _ _ _ c.in_ok-places.ensures.stays c.over_places.ensures.stays

pub returns-clause-accepts : goal.returns-clause-accepts
returns-clause-accepts g c = λ s d spelled.
    let f = g.I.Ident.meaning c.args.ident.now in
    let last = g.K.Keeper.contents c.over_places.new.draft.keeper.now in
    let mid = g.K.Keeper.contents c.places_of.new.draft.keeper.now in
    let p = c.args.draft.now.pending in
    let d1 = back f mid last p s c.over_places.ensures.stays.same d in
    let room = has_room d.stands.history c.count-count.result (c.count-count.ensures ∙ counted f last p s d) (omega (arith, c.if-count-ge-MAX_LOG.false)) in
    let known = subst (λ (es : List Edge). unknown_parent d.stands.history es ≡ None) c.as_slice.ensures (c.in_ok-places.ensures.known f s d1) in
    let new = c.requires.new f s (back f (g.K.Keeper.contents c.args.draft.now.keeper.now) mid p s c.in_ok-places.ensures.stays.same d1) in
    accepted_new c.over_places.result f d.records s d.stands.history c.args.fresh.now c.over_places.new.draft.pending room known
    (moved (λ (q : Pending). (s : State) → (d : IsFounded f last q s) → IsNew f d.stands.history c.args.fresh.now → OnOk c.over_places.result (Accepts f d.records s d.stands.history c.args.fresh.now c.over_places.new.draft.pending))
    c.places_of.new.draft.pending p c.in_ok-places.ensures.pending c.over_places.ensures.accepts s d (record { short = spelled.short; id = spelled.id; spells = spelled.spells; new = new; room = room; known = known }))

pub returns-clause-refused : goal.returns-clause-refused
returns-clause-refused g c = λ s d.
    let f = g.I.Ident.meaning c.args.ident.now in
    let last = g.K.Keeper.contents c.over_places.new.draft.keeper.now in
    let mid = g.K.Keeper.contents c.places_of.new.draft.keeper.now in
    let p = c.args.draft.now.pending in
    let d1 = back f mid last p s c.over_places.ensures.stays.same d in
    let room = has_room d.stands.history c.count-count.result (c.count-count.ensures ∙ counted f last p s d) (omega (arith, c.if-count-ge-MAX_LOG.false)) in
    let known = subst (λ (es : List Edge). unknown_parent d.stands.history es ≡ None) c.as_slice.ensures (c.in_ok-places.ensures.known f s d1) in
    err_refused c.over_places.result _ _ (sym (refused_made f s.files d.stands.history c.args.fresh.now.id c.args.fresh.now.read.now room known))
    (moved (λ (q : Pending). (s : State) → (d : IsFounded f last q s) → IfErr c.over_places.result (IsRefusal (made_refusal_of f s.files d.stands.history c.args.fresh.now.id c.args.fresh.now.read.now)))
    c.places_of.new.draft.pending p c.in_ok-places.ensures.pending c.over_places.ensures.refused s d)

pub returns-in_err-places-clause-reads : goal.returns-in_err-places-clause-reads
returns-in_err-places-clause-reads g c = λ f s d ids n least for.
    let asked = subst (λ (es : List Edge). g.K.Keeper.reads c.places_of.new.draft.keeper.now ≤ g.K.Keeper.reads c.args.draft.now.keeper.now + length es) c.as_slice.ensures c.places_of.ensures.reads in
    let few = two_edges c.args.fresh.now.read.now.edges c.requires.edges in
    omega (arith, asked, few, least)

pub returns-clause-reads : goal.returns-clause-reads
returns-clause-reads g c = λ f s d ids n least for.
    let last = g.K.Keeper.contents c.over_places.new.draft.keeper.now in
    let mid = g.K.Keeper.contents c.places_of.new.draft.keeper.now in
    let p = c.args.draft.now.pending in
    let d1 = back f mid last p s c.over_places.ensures.stays.same d in
    let asked = subst (λ (es : List Edge). g.K.Keeper.reads c.places_of.new.draft.keeper.now ≤ g.K.Keeper.reads c.args.draft.now.keeper.now + length es) c.as_slice.ensures c.places_of.ensures.reads in
    let few = two_edges c.args.fresh.now.read.now.edges c.requires.edges in
    let known = subst (λ (es : List Edge). unknown_parent d.stands.history es ≡ None) c.as_slice.ensures (c.in_ok-places.ensures.known f s d1) in
    let w = for known in
    let stand = c.deref.ensures.value ∙ subst (λ (es : List Edge). c.in_ok-places.places.items ≡ parents_of d.stands.history es) c.as_slice.ensures (c.in_ok-places.ensures.places f s d1) in
    let then = moved (λ (q : Pending). (f : List ℕ → List ℕ) (s : State) → (d : IsFounded f last q s) → MakesIds f → (w : ℕ) → IsWindow (parents_at d.stands.history) c.deref.result.now w →
    g.K.Keeper.reads c.over_places.new.draft.keeper.now ≤ g.K.Keeper.reads c.places_of.new.draft.keeper.now + (34 + length (new_contents c.args.fresh.now.read.now.edges) + w)) c.places_of.new.draft.pending p c.in_ok-places.ensures.pending c.over_places.ensures.reads f s d ids w.0
    (subst (λ (ps : List ℕ). IsWindow (parents_at d.stands.history) ps w.0) (sym stand) w.1) in
    let most = w.2 in
    omega (arith, asked, few, then, most)
