use Rattle.std.proofs.Common.{◌<◌, ℕ, List, Err, length, refl, sym, ap, ◌∙◌, subst}
use Rattle.std.specs.List.{AllZip}
use Rattle.std.specs.Prelude.{Contains}
use Rattle.std.proofs.lemmas.Result.{err_from_is_err_and}
use Rattle.mtn_history_laws.specs.History.{IsPlaceOf}
use Rattle.mtn_marking.specs.Graph.{IsMarkedAt}
use Rattle.mtn_ports.proofs.KeptLemmas.{stays_trans}
use Rattle.mtn_history.specs.declared.pending.Pending.{Pending}
use Rattle.mtn_history.specs.Stands.{IsFounded}
use Rattle.mtn_history.proofs.Founding.{back}
use Rattle.mtn_base.specs.Ids.{in_id_order}
use Rattle.mtn_base.proofs.IdOrder.{in_order_ascends, in_order_same}
use Rattle.mtn_roster_queries.specs.Answers.{Gives}
use Rattle.mtn_answers.specs.Views.{IsContentChanged, IsContentIn, marks_text}
use Rattle.mtn_history.proofs.Sound.{sound_error}
use Rattle.mtn_roster_queries.proofs.Views.{not_found, no_content_marks, content_changed, marks_held, are_held, not_failed, held_damage}
use Rattle.mtn_roster_queries.proofs.content.get_content_changed.Goals as goal

pub returns-in_err-at-clause-found : goal.returns-in_err-at-clause-found
returns-in_err-at-clause-found g c f s d =
    let p = err_from_is_err_and c.from_residual.result c.from_residual.ensures.1 in
    subst (Gives (IsContentChanged d.stands.history c.args.id c.args.path.now)) (sym (p.1 ∙ ap Err p.2))
    (not_found d.stands.history c.args.id (IsContentIn d.stands.history c.args.id c.args.path.now) refl c.in_err-at.field-0.0 (c.in_err-at.ensures.found f s d))

pub returns-in_err-marks-clause-found : goal.returns-in_err-marks-clause-found
returns-in_err-marks-clause-found g c f s d =
    let h = d.stands.history in
    let found = c.in_ok-at.ensures.found f s d in
    let p = err_from_is_err_and c.from_residual-in_err-marks.result c.from_residual-in_err-marks.ensures.1 in
    subst (Gives (IsContentChanged h c.args.id c.args.path.now)) (sym (p.1 ∙ ap Err p.2))
    (no_content_marks h c.args.id c.args.path.now c.in_ok-at.at found.0 c.in_err-marks.field-0.0 (c.in_err-marks.ensures.found h c.in_ok-at.at (subst (IsMarkedAt h c.in_ok-at.at) (sym c.marked.ensures) found.1)))

pub returns-in_err-marks-clause-damaged : goal.returns-in_err-marks-clause-damaged
returns-in_err-marks-clause-damaged g c =
    let p = err_from_is_err_and c.from_residual-in_err-marks.result c.from_residual-in_err-marks.ensures.1 in
    sound_error (g.K.Keeper.contents c.roster_of.new.self.keeper.now) c.args.draft.now.pending c.from_residual-in_err-marks.result c.in_err-marks.field-0.0 (p.1 ∙ ap Err p.2) c.in_err-marks.ensures.sound

pub returns-in_err-marks-clause-failed : goal.returns-in_err-marks-clause-failed
returns-in_err-marks-clause-failed g c = λ at.
    let p = err_from_is_err_and c.from_residual-in_err-marks.result c.from_residual-in_err-marks.ensures.1 in
    absurd (not_failed c.from_residual-in_err-marks.result c.in_err-marks.field-0.0 (p.1 ∙ ap Err p.2) (λ e. c.in_err-marks.ensures.failed (ap Err e)) at)

pub returns-in_err-ids-clause-stays : goal.returns-in_err-ids-clause-stays
returns-in_err-ids-clause-stays g c = stays_trans g.K.Keeper.contents g.K.Keeper.leaves g.K.Keeper.faults _ _ _ c.in_ok-at.ensures.asks.stays c.in_err-ids.ensures.asks.stays

pub returns-in_err-ids-clause-damaged : goal.returns-in_err-ids-clause-damaged
returns-in_err-ids-clause-damaged g c =
    let p = err_from_is_err_and c.from_residual-in_err-ids.result c.from_residual-in_err-ids.ensures.1 in
    let told = g.K.Keeper.contents c.ids_at.new.self.keeper.now in
    held_damage told c.args.draft.now.pending c.roster_of.new.self.pending c.as_slice.result.now c.from_residual-in_err-ids.result c.in_err-ids.field-0.0 (p.1 ∙ ap Err p.2) c.in_ok-at.ensures.asks.pending
    (are_held told c.args.draft.now.pending c.as_slice.result.now (λ h s d.
    let e = back h (g.K.Keeper.contents c.roster_of.new.self.keeper.now) told c.args.draft.now.pending s c.in_err-ids.ensures.asks.stays.same d in
    subst (λ (l : List ℕ). (x : ℕ) → Contains l x → x < length d.stands.history) (sym c.as_slice.ensures.value)
    (marks_held d.stands.history c.in_ok-at.at c.args.path.now c.in_ok-marks.marks (c.in_ok-marks.ensures.found d.stands.history c.in_ok-at.at (subst (IsMarkedAt d.stands.history c.in_ok-at.at) (sym c.marked.ensures) (c.in_ok-at.ensures.found h s e).1)))))
    c.in_err-ids.ensures.damaged

pub returns-in_err-marks_text-clause-stays : goal.returns-in_err-marks_text-clause-stays
returns-in_err-marks_text-clause-stays g c = stays_trans g.K.Keeper.contents g.K.Keeper.leaves g.K.Keeper.faults _ _ _ c.in_ok-at.ensures.asks.stays c.in_ok-ids.ensures.asks.stays

pub returns-clause-stays : goal.returns-clause-stays
returns-clause-stays g c = stays_trans g.K.Keeper.contents g.K.Keeper.leaves g.K.Keeper.faults _ _ _ c.in_ok-at.ensures.asks.stays c.in_ok-ids.ensures.asks.stays

pub returns-clause-found : goal.returns-clause-found
returns-clause-found g c f s d =
    let h = d.stands.history in
    let told = g.K.Keeper.contents c.ids_at.new.self.keeper.now in
    let e = back f (g.K.Keeper.contents c.roster_of.new.self.keeper.now) told c.args.draft.now.pending s c.in_ok-ids.ensures.asks.stays.same d in
    let found = c.in_ok-at.ensures.found f s e in
    content_changed h c.args.id c.args.path.now c.in_ok-at.at found.0 c.in_ok-marks.marks c.in_ok-ids.ids.items (in_id_order c.in_ok-ids.ids.items)
    (subst (λ (l : List ℕ). AllZip (λ a x. IsPlaceOf h x a) l c.in_ok-ids.ids.items) c.as_slice.ensures.value
    ((subst (λ (q : Pending). (b : IsFounded f told q s) → AllZip (λ a x. IsPlaceOf b.stands.history x a) c.as_slice.result.now c.in_ok-ids.ids.items) c.in_ok-at.ensures.asks.pending (c.in_ok-ids.ensures.found f s)) d))
    (in_order_ascends c.in_ok-ids.ids.items) (in_order_same c.in_ok-ids.ids.items) c.in_ok-marks_text.field-0 (c.in_ok-marks_text.ensures ∙ ap marks_text (c.deref.ensures.value ∙ c.put_in_order.ensures)) (c.in_ok-marks.ensures.found h c.in_ok-at.at (subst (IsMarkedAt h c.in_ok-at.at) (sym c.marked.ensures) found.1))
