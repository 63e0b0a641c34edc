-- One parent.
use Rattle.std.proofs.Common.{List, [], ◌∷◌, ◌∙◌, sym, ap, subst, arith}
use Rattle.std.specs.Prelude.{IfErr, IfSome, OnOk}
use Rattle.mtn_ports.specs.Kept.{with_all}
use Rattle.mtn_history.specs.Rosters.{IsRebuilt, Rebuilds}
use Rattle.mtn_history.specs.Remembered.{RebuiltRoster}
use Rattle.mtn_history.proofs.Knowing.{mapped}
use Rattle.mtn_roster_deltas.specs.Chain.{Entries}
use Rattle.mtn_roster_deltas.specs.Numbering.{shown}
use Rattle.mtn_model.specs.State.{State}
use Rattle.mtn_ports.proofs.KeptLemmas.{stays_trans}
use Rattle.mtn_history.specs.Stands.{IsFounded}
use Rattle.mtn_history.specs.declared.pending.Pending.{Pending}
use Rattle.mtn_history.proofs.Founding.{back, grown}
use Rattle.mtn_put_revision.specs.Finding.{IsRefusal, made_refusal_of}
use Rattle.mtn_put_revision.specs.Keeping.{Accepts, AreParents, IsFirstRebuilt, IsNew}
use Rattle.mtn_put_revision.proofs.Bases.{some_places, one_basis, moved_based, under}
use Rattle.mtn_put_revision.proofs.Grounds.{moved, rebuilt_at}
use Rattle.mtn_put_revision.proofs.Planning.{planned_on}
use Rattle.mtn_put_revision.proofs.Counting.{as_pending}
use Rattle.mtn_put_revision.proofs.over.over_one.Goals as goal

pub over-requires-clause-first : goal.over-requires-clause-first
over-requires-clause-first g c κs within =
    let told = g.K.Keeper.contents c.roster_at.new.self.keeper.now in
    let p = c.args.draft.now.pending in
    let q = c.roster_at.new.self.pending in
    let depth = c.depth.result in
    let made = subst (λ (x : RebuiltRoster). IfSome told (λ y. IsRebuilt (with_all y p.batch) c.args.at x.entries x.roster x.depth)) (sym c.as_ref-parent.ensures
    ∙ (λ i. record { entries = sym c.in_ok-entries.ensures i; roster = sym c.roster.ensures i; depth = sym c.depth.ensures i })) c.in_ok-held.ensures.rebuilt in
    subst (λ ps. IfSome told (λ y. IsFirstRebuilt (with_all y q.batch) ps (shown c.as_slice.result.now) depth)) (sym c.requires.one)
    (subst (λ es. IfSome told (λ y. IsFirstRebuilt (with_all y q.batch) (c.args.at ∷ []) es depth)) (sym (ap shown c.as_slice.ensures))
    (moved (λ (x : Pending). IfSome told (λ y. IsFirstRebuilt (with_all y x.batch) (c.args.at ∷ []) (c.in_ok-entries.entries ∷ []) depth)) p q (sym c.roster_at.ensures.asks.pending)
    (mapped told (λ y. IsRebuilt (with_all y p.batch) c.args.at c.in_ok-entries.entries c.roster.result.now depth) _ (λ y h. (c.roster.result.now, h)) made)))

pub over-requires-clause-based : goal.over-requires-clause-based
over-requires-clause-based g c κs within =
    let told = g.K.Keeper.contents c.roster_at.new.self.keeper.now in
    let p = c.args.draft.now.pending in
    let made = subst (λ (x : RebuiltRoster). IfSome told (λ y. IsRebuilt (with_all y p.batch) c.args.at x.entries x.roster x.depth)) (sym c.as_ref-parent.ensures
    ∙ (λ i. record { entries = sym c.in_ok-entries.ensures i; roster = sym c.roster.ensures i; depth = sym c.depth.ensures i })) c.in_ok-held.ensures.rebuilt in
    moved_based told p c.roster_at.new.self.pending (sym c.roster_at.ensures.asks.pending) c.args.fresh.now.read.now.edges _ c.args.fresh.now.id c.args.places.now (shown c.as_slice.result.now) c.depth.result
    (λ f s d.
    let on = c.requires.parents f s (back f (g.K.Keeper.contents c.args.draft.now.keeper.now) told p s c.roster_at.ensures.asks.stays.same d) in
    let has = rebuilt_at f told p s d c.args.at c.in_ok-entries.entries c.roster.result.now c.depth.result c.requires.below made in
    let b = one_basis d.stands.history d.stands.kept c.args.fresh.now c.args.places.now c.args.at c.in_ok-entries.entries c.roster.result.now c.depth.result c.requires.edges on c.requires.one has in (
      under d.stands.history c.args.fresh.now.read.now.edges _ c.args.fresh.now.id (b.0 ∷ []) (grown f told p s d) on.new b.1 (c.args.at, b.2),
      subst (λ (es : List Entries). AreParents d.stands.history d.stands.kept c.args.fresh.now.read.now.edges c.args.places.now es c.depth.result) (sym (ap shown c.as_slice.ensures)) b.3,
    ))

pub over-requires-clause-planned : goal.over-requires-clause-planned
over-requires-clause-planned g c κs within =
    planned_on (g.I.Ident.meaning c.args.ident.now) (g.K.Keeper.contents c.args.draft.now.keeper.now) (g.K.Keeper.contents c.roster_at.new.self.keeper.now) c.args.draft.now.pending c.roster_at.new.self.pending c.args.fresh.now.text.now c.args.planned
    c.roster_at.ensures.asks.stays.same c.roster_at.ensures.asks.pending c.requires.planned

pub returns-clause-stays : goal.returns-clause-stays
returns-clause-stays g c = stays_trans g.K.Keeper.contents g.K.Keeper.leaves g.K.Keeper.faults _ _ _ c.roster_at.ensures.asks.stays c.over.ensures.stays

pub returns-clause-accepts : goal.returns-clause-accepts
returns-clause-accepts g c = moved (λ (q : Pending). (s : State) → (d : IsFounded (g.I.Ident.meaning c.args.ident.now) (g.K.Keeper.contents c.over.new.draft.keeper.now) q s) → IsNew (g.I.Ident.meaning c.args.ident.now) d.stands.history c.args.fresh.now → OnOk c.over.result (Accepts (g.I.Ident.meaning c.args.ident.now) d.records s d.stands.history c.args.fresh.now c.over.new.draft.pending)) c.roster_at.new.self.pending c.args.draft.now.pending c.roster_at.ensures.asks.pending c.over.ensures.accepts

pub returns-clause-refused : goal.returns-clause-refused
returns-clause-refused g c = moved (λ (q : Pending). (s : State) → (d : IsFounded (g.I.Ident.meaning c.args.ident.now) (g.K.Keeper.contents c.over.new.draft.keeper.now) q s) → IfErr c.over.result (IsRefusal (made_refusal_of (g.I.Ident.meaning c.args.ident.now) s.files d.stands.history c.args.fresh.now.id c.args.fresh.now.read.now))) c.roster_at.new.self.pending c.args.draft.now.pending c.roster_at.ensures.asks.pending c.over.ensures.refused

pub over-requires-clause-root : goal.over-requires-clause-root
over-requires-clause-root g c κs within = λ e. absurd (some_places _ _ c.args.places.now c.requires.one e)

pub over-requires-clause-unknown : goal.over-requires-clause-unknown
over-requires-clause-unknown g c κs within = λ e. absurd (some_places _ _ c.args.places.now c.requires.one e)

pub returns-clause-reads : goal.returns-clause-reads
returns-clause-reads g c = λ f s d ids.
    let first = c.in_ok-held.ensures.few in
    let then = c.over.ensures.reads f s (as_pending f (g.K.Keeper.contents c.over.new.draft.keeper.now) c.args.draft.now.pending c.roster_at.new.self.pending s c.roster_at.ensures.asks.pending d) ids in
    omega (arith, first, then)
