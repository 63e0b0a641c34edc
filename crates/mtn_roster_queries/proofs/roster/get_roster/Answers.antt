use Rattle.std.proofs.Common.{◌↔◌, ℕ, List, Err, refl, sym, ap, ◌∙◌, subst}
use Rattle.std.specs.List.{AllZip}
use Rattle.std.specs.Prelude.{Contains}
use Rattle.std.proofs.lemmas.Result.{err_from_is_err_and}
use Rattle.mtn_base.specs.declared.id.Id.{Id}
use Rattle.mtn_basic_io.specs.Spelling.{spelling}
use Rattle.mtn_history_laws.specs.History.{IsPlaceOf}
use Rattle.mtn_marking.specs.Graph.{IsMarkedAt}
use Rattle.mtn_ports.proofs.KeptLemmas.{stays_trans}
use Rattle.mtn_history.specs.declared.pending.Pending.{Pending}
use Rattle.mtn_history.specs.Stands.{IsFounded}
use Rattle.mtn_history.proofs.Founding.{back}
use Rattle.mtn_roster_text.specs.Naming.{ids_in, table_of}
use Rattle.mtn_roster_text.specs.Positions.{IsMarkIn}
use Rattle.mtn_roster_text.specs.RosterText.{roster_of}
use Rattle.mtn_roster_queries.specs.Answers.{Gives}
use Rattle.mtn_answers.specs.Views.{IsRoster, IsRosterIn}
use Rattle.mtn_roster_queries.proofs.Rostered.{roster_answer, roster_held}
use Rattle.mtn_roster_queries.proofs.Views.{not_found, are_held, held_damage}
use Rattle.mtn_roster_queries.proofs.roster.get_roster.Goals as goal

pub returns-in_err-at-clause-found : goal.returns-in_err-at-clause-found
returns-in_err-at-clause-found g c f s d =
    let p = err_from_is_err_and c.from_residual.result c.from_residual.ensures.1 in
    subst (Gives (IsRoster d.stands.history c.args.id)) (sym (p.1 ∙ ap Err p.2))
    (not_found d.stands.history c.args.id (IsRosterIn d.stands.history c.args.id) refl c.in_err-at.field-0.0 (c.in_err-at.ensures.found f s d))

pub returns-in_err-ids-clause-stays : goal.returns-in_err-ids-clause-stays
returns-in_err-ids-clause-stays g c = stays_trans g.K.Keeper.contents g.K.Keeper.leaves g.K.Keeper.faults _ _ _ c.in_ok-at.ensures.asks.stays c.in_err-ids.ensures.asks.stays

pub returns-in_err-ids-clause-damaged : goal.returns-in_err-ids-clause-damaged
returns-in_err-ids-clause-damaged g c =
    let p = err_from_is_err_and c.from_residual-in_err-ids.result c.from_residual-in_err-ids.ensures.1 in
    let told = g.K.Keeper.contents c.ids_at.new.self.keeper.now in
    let places = c.deref.result.now in
    let exact : (x : ℕ) → Contains places x ↔ IsMarkIn c.marked-roster.result.now.marks x = subst (λ (l : List ℕ). (x : ℕ) → Contains l x ↔ IsMarkIn c.marked-roster.result.now.marks x) (sym c.deref.ensures.value) c.in_ok-places.ensures.exact in
    held_damage told c.args.draft.now.pending c.roster_of.new.self.pending places c.from_residual-in_err-ids.result c.in_err-ids.field-0.0 (p.1 ∙ ap Err p.2) c.in_ok-at.ensures.asks.pending
    (are_held told c.args.draft.now.pending places (λ h s d.
    let e = back h (g.K.Keeper.contents c.roster_of.new.self.keeper.now) told c.args.draft.now.pending s c.in_err-ids.ensures.asks.stays.same d in
    roster_held d.stands.history c.in_ok-at.at c.marked-roster.result.now (subst (IsMarkedAt d.stands.history c.in_ok-at.at) (sym c.marked-roster.ensures) (c.in_ok-at.ensures.found h s e).1) places exact))
    c.in_err-ids.ensures.damaged

pub returns-in_err-text_of-clause-stays : goal.returns-in_err-text_of-clause-stays
returns-in_err-text_of-clause-stays g c = stays_trans g.K.Keeper.contents g.K.Keeper.leaves g.K.Keeper.faults _ _ _ c.in_ok-at.ensures.asks.stays c.in_ok-ids.ensures.asks.stays

pub returns-clause-stays : goal.returns-clause-stays
returns-clause-stays g c = stays_trans g.K.Keeper.contents g.K.Keeper.leaves g.K.Keeper.faults _ _ _ c.in_ok-at.ensures.asks.stays c.in_ok-ids.ensures.asks.stays

pub returns-clause-found : goal.returns-clause-found
returns-clause-found g c f s d =
    let h = d.stands.history in
    let told = g.K.Keeper.contents c.ids_at.new.self.keeper.now in
    let e = back f (g.K.Keeper.contents c.roster_of.new.self.keeper.now) told c.args.draft.now.pending s c.in_ok-ids.ensures.asks.stays.same d in
    let found = c.in_ok-at.ensures.found f s e in
    let t = c.marked-roster.result.now in
    let places = c.in_ok-places.places.items in
    let zip = (subst (λ (q : Pending). (b : IsFounded f told q s) → AllZip (λ a x. IsPlaceOf b.stands.history x a) c.deref.result.now c.in_ok-ids.ids.items) c.in_ok-at.ensures.asks.pending (c.in_ok-ids.ensures.found f s)) d in
    roster_answer h c.in_ok-at.at t (subst (IsMarkedAt h c.in_ok-at.at) (sym c.marked-roster.ensures) found.1) places c.in_ok-ids.ids.items c.in_ok-places.ensures.exact (subst (λ (l : List ℕ). AllZip (λ a x. IsPlaceOf h x a) l c.in_ok-ids.ids.items) c.deref.ensures.value zip) c.args.id c.in_ok-text_of.field-0 found.0
    (c.in_ok-text_of.ensures ∙ ap (λ (l : List ℕ). spelling (roster_of t.tree (ids_in (table_of l c.deref-3.result.now) t.marks))) c.deref-2.ensures.value
    ∙ ap (λ (l : List Id). spelling (roster_of t.tree (ids_in (table_of places l) t.marks))) c.deref-3.ensures.value)
