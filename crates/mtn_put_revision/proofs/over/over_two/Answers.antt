-- Two parents.
use Rattle.std.proofs.Common.{ℕ, List, [], ◌∷◌, ◌∙◌, sym, ap, subst, arith}
use Rattle.std.specs.Prelude.{IfErr, IfSome, OnOk}
use Rattle.mtn_ports.specs.Kept.{with_all}
use Rattle.mtn_history.specs.Rosters.{IsRebuilt}
use Rattle.mtn_history.specs.Remembered.{RebuiltRoster}
use Rattle.mtn_history.proofs.Knowing.{mapped}
use Rattle.mtn_roster_deltas.specs.Chain.{Entries}
use Rattle.mtn_roster_deltas.specs.Numbering.{shown}
use Rattle.mtn_model.specs.State.{State}
use Rattle.mtn_ports.proofs.KeptLemmas.{stays_trans}
use Rattle.mtn_history.specs.Stands.{IsFounded}
use Rattle.mtn_history.specs.declared.pending.Pending.{Pending}
use Rattle.mtn_history.proofs.Founding.{back, grown}
use Rattle.mtn_history.specs.Errors.{IfStoreDamage}
use Rattle.mtn_put_revision.specs.Finding.{IsFound, IsRefusal, made_refusal_of}
use Rattle.mtn_put_revision.specs.Keeping.{Accepts, AreParents, IsFirstRebuilt, IsNew}
use Rattle.mtn_put_revision.proofs.Bases.{some_places, two_basis, moved_based, under}
use Rattle.mtn_put_revision.proofs.Grounds.{moved, rebuilt_at}
use Rattle.mtn_put_revision.proofs.Planning.{planned_on}
use Rattle.mtn_history_laws.specs.History.{parents_at}
use Rattle.mtn_put_revision.specs.Reads.{IsWindow}
use Rattle.mtn_put_revision.proofs.Counting.{as_pending}
use Rattle.mtn_put_revision.proofs.over.over_two.Goals as goal

pub over-requires-clause-first : goal.over-requires-clause-first
over-requires-clause-first g c κs within =
    let told = g.K.Keeper.contents c.two_parents.new.draft.keeper.now in
    let p = c.args.draft.now.pending in
    let q = c.two_parents.new.draft.pending in
    let depth = c.depth.result in
    let es = c.in_ok-pair.pair.left_entries in
    let fs = c.in_ok-pair.pair.right_entries in
    let made = subst (λ (x : RebuiltRoster). IfSome told (λ y. IsRebuilt (with_all y p.batch) c.args.left x.entries x.roster x.depth)) (sym c.as_ref-first.ensures
    ∙ (λ i. record { entries = (ap (λ (x : RebuiltRoster). x.entries) c.as_ref-first.ensures ∙ sym c.in_ok-pair.ensures.left_entries) i; roster = sym c.roster.ensures i; depth = sym c.depth.ensures i })) c.in_ok-pair.ensures.left in
    subst (λ ps. IfSome told (λ y. IsFirstRebuilt (with_all y q.batch) ps (shown c.as_slice.result.now) depth)) (sym c.requires.two)
    (subst (λ all. IfSome told (λ y. IsFirstRebuilt (with_all y q.batch) (c.args.left ∷ c.args.right ∷ []) all depth)) (sym (ap shown c.as_slice.ensures))
    (moved (λ (x : Pending). IfSome told (λ y. IsFirstRebuilt (with_all y x.batch) (c.args.left ∷ c.args.right ∷ []) (es ∷ fs ∷ []) depth)) p q (sym c.in_ok-pair.ensures.pending)
    (mapped told (λ y. IsRebuilt (with_all y p.batch) c.args.left es c.roster.result.now depth) _ (λ y h. (c.roster.result.now, h)) made)))

pub over-requires-clause-based : goal.over-requires-clause-based
over-requires-clause-based g c κs within =
    let told = g.K.Keeper.contents c.two_parents.new.draft.keeper.now in
    let p = c.args.draft.now.pending in
    let es = c.in_ok-pair.pair.left_entries in
    let fs = c.in_ok-pair.pair.right_entries in
    let one = c.roster.result.now in
    let two = c.roster-2.result.now in
    let deep = c.as_ref-second.result.now.depth in
    let made = subst (λ (x : RebuiltRoster). IfSome told (λ y. IsRebuilt (with_all y p.batch) c.args.left x.entries x.roster x.depth)) (sym c.as_ref-first.ensures
    ∙ (λ i. record { entries = (ap (λ (x : RebuiltRoster). x.entries) c.as_ref-first.ensures ∙ sym c.in_ok-pair.ensures.left_entries) i; roster = sym c.roster.ensures i; depth = sym c.depth.ensures i })) c.in_ok-pair.ensures.left in
    let made_two = subst (λ (x : RebuiltRoster). IfSome told (λ y. IsRebuilt (with_all y p.batch) c.args.right x.entries x.roster x.depth)) (sym c.as_ref-second.ensures
    ∙ (λ i. record { entries = (ap (λ (x : RebuiltRoster). x.entries) c.as_ref-second.ensures ∙ sym c.in_ok-pair.ensures.right_entries) i; roster = sym c.roster-2.ensures i; depth = deep })) c.in_ok-pair.ensures.right in
    moved_based told p c.two_parents.new.draft.pending (sym c.in_ok-pair.ensures.pending) c.args.fresh.now.read.now.edges _ c.args.fresh.now.id c.args.places.now (shown c.as_slice.result.now) c.depth.result
    (λ f s d.
    let on = c.requires.parents f s (back f (g.K.Keeper.contents c.args.draft.now.keeper.now) told p s c.two_parents.ensures.stays.same d) in
    let first = rebuilt_at f told p s d c.args.left es one c.depth.result c.requires.below.0 made in
    let second = rebuilt_at f told p s d c.args.right fs two deep c.requires.below.1 made_two in
    let b = two_basis d.stands.history d.stands.kept c.args.fresh.now c.args.places.now c.args.left c.args.right es fs one two
    c.depth.result deep c.in_ok-pair.pair.only_left c.in_ok-pair.pair.only_right c.requires.edges on c.requires.two first second (c.in_ok-pair.ensures.lefts f s d) (c.in_ok-pair.ensures.rights f s d) in (
      under d.stands.history c.args.fresh.now.read.now.edges _ c.args.fresh.now.id (b.0 ∷ b.1 ∷ []) (grown f told p s d) on.new b.2 b.3,
      subst (λ (all : List Entries). AreParents d.stands.history d.stands.kept c.args.fresh.now.read.now.edges c.args.places.now all c.depth.result) (sym (ap shown c.as_slice.ensures)) b.4,
    ))

pub over-requires-clause-planned : goal.over-requires-clause-planned
over-requires-clause-planned g c κs within =
    planned_on (g.I.Ident.meaning c.args.ident.now) (g.K.Keeper.contents c.args.draft.now.keeper.now) (g.K.Keeper.contents c.two_parents.new.draft.keeper.now) c.args.draft.now.pending c.two_parents.new.draft.pending c.args.fresh.now.text.now c.args.planned
    c.two_parents.ensures.stays.same c.in_ok-pair.ensures.pending c.requires.planned

pub returns-clause-stays : goal.returns-clause-stays
returns-clause-stays g c = stays_trans g.K.Keeper.contents g.K.Keeper.leaves g.K.Keeper.faults _ _ _ c.two_parents.ensures.stays c.over.ensures.stays

pub returns-clause-accepts : goal.returns-clause-accepts
returns-clause-accepts g c = moved (λ (q : Pending). (s : State) → (d : IsFounded (g.I.Ident.meaning c.args.ident.now) (g.K.Keeper.contents c.over.new.draft.keeper.now) q s) → IsNew (g.I.Ident.meaning c.args.ident.now) d.stands.history c.args.fresh.now → OnOk c.over.result (Accepts (g.I.Ident.meaning c.args.ident.now) d.records s d.stands.history c.args.fresh.now c.over.new.draft.pending)) c.two_parents.new.draft.pending c.args.draft.now.pending c.in_ok-pair.ensures.pending c.over.ensures.accepts

pub returns-clause-refused : goal.returns-clause-refused
returns-clause-refused g c = moved (λ (q : Pending). (s : State) → (d : IsFounded (g.I.Ident.meaning c.args.ident.now) (g.K.Keeper.contents c.over.new.draft.keeper.now) q s) → IfErr c.over.result (IsRefusal (made_refusal_of (g.I.Ident.meaning c.args.ident.now) s.files d.stands.history c.args.fresh.now.id c.args.fresh.now.read.now))) c.two_parents.new.draft.pending c.args.draft.now.pending c.in_ok-pair.ensures.pending c.over.ensures.refused

pub over-requires-clause-root : goal.over-requires-clause-root
over-requires-clause-root g c κs within = λ e. absurd (some_places _ _ c.args.places.now c.requires.two e)

pub over-requires-clause-unknown : goal.over-requires-clause-unknown
over-requires-clause-unknown g c κs within = λ e. absurd (some_places _ _ c.args.places.now c.requires.two e)

pub returns-in_err-pair-clause-reads : goal.returns-in_err-pair-clause-reads
returns-in_err-pair-clause-reads g c = λ f s d ids w within.
    let window = subst (λ (ps : List ℕ). IsWindow (parents_at d.stands.history) ps w) c.requires.two within in
    let read = c.in_err-pair.ensures.reads f s d window.0 window.1 in
    let is = window.2 in
    omega (arith, read, is)

pub returns-clause-reads : goal.returns-clause-reads
returns-clause-reads g c = λ f s d ids w within.
    let told = g.K.Keeper.contents c.two_parents.new.draft.keeper.now in
    let last = g.K.Keeper.contents c.over.new.draft.keeper.now in
    let p = c.args.draft.now.pending in
    let window = subst (λ (ps : List ℕ). IsWindow (parents_at d.stands.history) ps w) c.requires.two within in
    let few = c.in_ok-pair.ensures.few f s (back f told last p s c.over.ensures.stays.same d) window.0 window.1 in
    let is = window.2 in
    let then = c.over.ensures.reads f s (as_pending f last p c.two_parents.new.draft.pending s c.in_ok-pair.ensures.pending d) ids in
    omega (arith, few, is, then)

pub returns-clause-damaged : goal.returns-clause-damaged
returns-clause-damaged g c =
    let last = g.K.Keeper.contents c.over.new.draft.keeper.now in
    moved (λ (q : Pending). IfSome last (λ y. IfErr c.over.result (λ e. IfStoreDamage e (IsFound last q (with_all y q.batch)))))
    c.two_parents.new.draft.pending c.args.draft.now.pending c.in_ok-pair.ensures.pending c.over.ensures.damaged
