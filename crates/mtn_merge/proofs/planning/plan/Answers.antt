-- The sides, what resolutions leave, and what it ends in.
use Rattle.std.specs.Prelude.{IfOk}
use Rattle.std.proofs.Common.{Result, ◌≡◌, ◌∙◌, ℕ, List, [], Err, sym, ap, subst}
use Rattle.std.proofs.lemmas.Result.{err_from_is_err_and}
use Rattle.mtn_history.specs.Stands.{IsFounded}
use Rattle.mtn_history.specs.declared.pending.Pending.{Pending}
use Rattle.mtn_history.proofs.Founding.{back}
use Rattle.mtn_model.specs.State.{State}
use Rattle.mtn_plans.specs.Plans.{Ends, Plans, PlansSides}
use Rattle.mtn_plans.specs.Sides.{left_of, right_of}
use Rattle.mtn_ports.proofs.KeptLemmas.{stays_trans}
use Rattle.mtn_put_revision.proofs.Grounds.{moved}
use Rattle.mtn_merge.specs.Given.{OverridesAll}
use Rattle.mtn_merge.specs.Plans.{Gives, HasClear, outcomes}
use Rattle.mtn_merge.specs.Sides.{IsSideOf}
use Rattle.mtn_history.specs.declared.errors.HistoryError.{HistoryError}
use Rattle.mtn_merge.proofs.Trees.{plain_tree, tree_is_planned}
use Rattle.mtn_merge.specs.declared.answer.Planned.{Planned}
use Rattle.mtn_merge.specs.declared.sides.Side.{Side}
use Rattle.mtn_history.proofs.Sound.{sound_error}
use Rattle.mtn_merge.proofs.Damaging.{kept_damage}
use Rattle.mtn_merge.proofs.Hanging.{Settles, found_dirs, settled_dirs}
use Rattle.mtn_merge.proofs.Plans.{none_of, not_resolved, resolved, sides_refused, unresolved}
use Rattle.mtn_merge.proofs.planning.plan.Goals as goal

pub returns-in_err-compared-clause-plans : goal.returns-in_err-compared-clause-plans
returns-in_err-compared-clause-plans g c = λ s d.
    let f = g.I.Ident.meaning c.args.ident.now in
    let h = d.stands.history in
    let p = err_from_is_err_and c.from_residual.result c.from_residual.ensures.1 in
    subst (λ (z : Result Planned HistoryError). Gives (Plans f s.files h c.args.a c.args.b c.args.resolutions.now) (outcomes z)) (sym (p.1 ∙ ap Err p.2))
    (sides_refused h c.args.a c.args.b (PlansSides f h (left_of c.args.a c.args.b) (right_of c.args.a c.args.b) s.files c.args.resolutions.now) c.in_err-compared.field-0.0 (c.in_err-compared.ensures.finds f s d))

-- without resolutions

pub ends-requires-clause-dirs : goal.ends-requires-clause-dirs
ends-requires-clause-dirs g c = λ κs alive.
    found_dirs (g.K.Keeper.contents c.sides_of.new.draft.keeper.now) c.args.draft.now.pending c.sides_of.new.draft.pending c.args.a c.args.b c.in_ok-compared.compared c.in_ok-compared.ensures.pending c.in_ok-compared.ensures.finds

pub returns-then-is_empty-clause-stays : goal.returns-then-is_empty-clause-stays
returns-then-is_empty-clause-stays g c = stays_trans g.K.Keeper.contents g.K.Keeper.leaves g.K.Keeper.faults _ _ _ c.in_ok-compared.ensures.stays c.ends.ensures.stays

pub returns-then-is_empty-clause-plans : goal.returns-then-is_empty-clause-plans
returns-then-is_empty-clause-plans g c = λ s d.
    let f = g.I.Ident.meaning c.args.ident.now in
    let h = d.stands.history in
    let x = c.in_ok-compared.compared in
    let mid = g.K.Keeper.contents c.sides_of.new.draft.keeper.now in
    let told = g.K.Keeper.contents c.ends.new.draft.keeper.now in
    let found = c.in_ok-compared.ensures.finds f s (back f mid told c.args.draft.now.pending s c.ends.ensures.stays.same d) in
    let none : c.args.resolutions.now ≡ [] = none_of c.args.resolutions.now c.items.result.now c.is_empty.result c.items.ensures.items c.is_empty.ensures c.if-is_empty.true in
    unresolved f s.files h c.args.a c.args.b x found.0 found.1 c.in_ok-compared.ensures.conflicts c.args.resolutions.now none found.1.merge.order (outcomes c.ends.result)
    (c.ends.ensures.ends h found.1.left_side found.1.right_side)

pub returns-then-is_empty-clause-tree : goal.returns-then-is_empty-clause-tree
returns-then-is_empty-clause-tree g c = λ s d lawful.
    let f = g.I.Ident.meaning c.args.ident.now in
    let h = d.stands.history in
    let x = c.in_ok-compared.compared in
    let mid = g.K.Keeper.contents c.sides_of.new.draft.keeper.now in
    let told = g.K.Keeper.contents c.ends.new.draft.keeper.now in
    let found = c.in_ok-compared.ensures.finds f s (back f mid told c.args.draft.now.pending s c.ends.ensures.stays.same d) in
    let none : c.args.resolutions.now ≡ [] = none_of c.args.resolutions.now c.items.result.now c.is_empty.result c.items.ensures.items c.is_empty.ensures c.if-is_empty.true in
    plain_tree f s.files s.log h d.stands.spelled c.args.a c.args.b x found.0 found.1 c.args.resolutions.now lawful none c.ends.result (c.ends.ensures.clear h found.1.left_side found.1.right_side)

pub returns-then-is_empty-clause-damaged : goal.returns-then-is_empty-clause-damaged
returns-then-is_empty-clause-damaged g c = kept_damage (g.K.Keeper.contents c.ends.new.draft.keeper.now) c.args.draft.now.pending c.sides_of.new.draft.pending c.ends.result c.in_ok-compared.ensures.pending c.ends.ensures.damaged

-- resolutions that are refused

pub returns-in_err-settled-clause-stays : goal.returns-in_err-settled-clause-stays
returns-in_err-settled-clause-stays g c = stays_trans g.K.Keeper.contents g.K.Keeper.leaves g.K.Keeper.faults _ _ _ c.in_ok-compared.ensures.stays c.in_err-settled.ensures.stays

pub returns-in_err-settled-clause-plans : goal.returns-in_err-settled-clause-plans
returns-in_err-settled-clause-plans g c = λ s d.
    let f = g.I.Ident.meaning c.args.ident.now in
    let h = d.stands.history in
    let x = c.in_ok-compared.compared in
    let e = c.in_err-settled.field-0.0 in
    let mid = g.K.Keeper.contents c.sides_of.new.draft.keeper.now in
    let told = g.K.Keeper.contents c.overridden.new.draft.keeper.now in
    let found = c.in_ok-compared.ensures.finds f s (back f mid told c.args.draft.now.pending s c.in_err-settled.ensures.stays.same d) in
    let over = moved (λ (q : Pending). (f : List ℕ → List ℕ) (s : State) → IsFounded f told q s → OverridesAll s.files x.decisions x.conflicts c.args.resolutions.now (Err e)) c.sides_of.new.draft.pending c.args.draft.now.pending c.in_ok-compared.ensures.pending c.in_err-settled.ensures.overrides f s d in
    let p = err_from_is_err_and c.from_residual-in_err-settled.result c.from_residual-in_err-settled.ensures.1 in
    subst (λ (z : Result Planned HistoryError). Gives (Plans f s.files h c.args.a c.args.b c.args.resolutions.now) (outcomes z)) (sym (p.1 ∙ ap Err p.2))
    (not_resolved f s.files h c.args.a c.args.b x found.0 found.1 c.in_ok-compared.ensures.conflicts c.args.resolutions.now e over)

pub returns-in_err-settled-clause-damaged : goal.returns-in_err-settled-clause-damaged
returns-in_err-settled-clause-damaged g c =
    let p = err_from_is_err_and c.from_residual-in_err-settled.result c.from_residual-in_err-settled.ensures.1 in
    sound_error (g.K.Keeper.contents c.overridden.new.draft.keeper.now) c.args.draft.now.pending c.from_residual-in_err-settled.result c.in_err-settled.field-0.0 (p.1 ∙ ap Err p.2) c.in_err-settled.ensures.sound

-- with resolutions

pub ends-requires-2-clause-dirs : goal.ends-requires-2-clause-dirs
ends-requires-2-clause-dirs g c = λ κs alive.
    settled_dirs (g.K.Keeper.contents c.sides_of.new.draft.keeper.now) (g.K.Keeper.contents c.overridden.new.draft.keeper.now) c.args.draft.now.pending c.sides_of.new.draft.pending c.overridden.new.draft.pending
    c.args.a c.args.b c.in_ok-compared.compared c.in_ok-settled.settled c.args.resolutions.now c.in_ok-compared.ensures.pending c.in_ok-settled.ensures.pending c.in_ok-settled.ensures.stays.same c.in_ok-compared.ensures.finds c.in_ok-settled.ensures.overrides

pub returns-clause-stays : goal.returns-clause-stays
returns-clause-stays g c = stays_trans g.K.Keeper.contents g.K.Keeper.leaves g.K.Keeper.faults _ _ _ (stays_trans g.K.Keeper.contents g.K.Keeper.leaves g.K.Keeper.faults _ _ _ c.in_ok-compared.ensures.stays c.in_ok-settled.ensures.stays) c.ends-2.ensures.stays

pub returns-clause-plans : goal.returns-clause-plans
returns-clause-plans g c = λ s d.
    let f = g.I.Ident.meaning c.args.ident.now in
    let h = d.stands.history in
    let x = c.in_ok-compared.compared in
    let y = c.in_ok-settled.settled in
    let p = c.args.draft.now.pending in
    let low = g.K.Keeper.contents c.sides_of.new.draft.keeper.now in
    let mid = g.K.Keeper.contents c.overridden.new.draft.keeper.now in
    let told = g.K.Keeper.contents c.ends-2.new.draft.keeper.now in
    let d2 = back f mid told p s c.ends-2.ensures.stays.same d in
    let found = c.in_ok-compared.ensures.finds f s (back f low mid p s c.in_ok-settled.ensures.stays.same d2) in
    let over = moved (λ (q : Pending). Settles mid q x c.args.resolutions.now y) c.sides_of.new.draft.pending p c.in_ok-compared.ensures.pending c.in_ok-settled.ensures.overrides f s d2 in
    resolved f s.files h c.args.a c.args.b x found.0 found.1 c.in_ok-compared.ensures.conflicts c.args.resolutions.now y.decisions over (outcomes c.ends-2.result)
    (subst (λ (l : Side). Gives (Ends f h l.id x.right.id y.decisions) (outcomes c.ends-2.result)) c.in_ok-settled.ensures.left
    (subst (λ (r : Side). Gives (Ends f h y.left.id r.id y.decisions) (outcomes c.ends-2.result)) c.in_ok-settled.ensures.right
    (c.ends-2.ensures.ends h (subst (IsSideOf h) (sym c.in_ok-settled.ensures.left) found.1.left_side) (subst (IsSideOf h) (sym c.in_ok-settled.ensures.right) found.1.right_side))))

pub returns-clause-tree : goal.returns-clause-tree
returns-clause-tree g c = λ s d lawful.
    let f = g.I.Ident.meaning c.args.ident.now in
    let h = d.stands.history in
    let x = c.in_ok-compared.compared in
    let y = c.in_ok-settled.settled in
    let p = c.args.draft.now.pending in
    let low = g.K.Keeper.contents c.sides_of.new.draft.keeper.now in
    let mid = g.K.Keeper.contents c.overridden.new.draft.keeper.now in
    let told = g.K.Keeper.contents c.ends-2.new.draft.keeper.now in
    let d2 = back f mid told p s c.ends-2.ensures.stays.same d in
    let found = c.in_ok-compared.ensures.finds f s (back f low mid p s c.in_ok-settled.ensures.stays.same d2) in
    let over = moved (λ (q : Pending). Settles mid q x c.args.resolutions.now y) c.sides_of.new.draft.pending p c.in_ok-compared.ensures.pending c.in_ok-settled.ensures.overrides f s d2 in
    tree_is_planned f s.files s.log h d.stands.spelled c.args.a c.args.b x found.0 found.1 c.args.resolutions.now lawful y.decisions over c.ends-2.result
    (subst (λ (l : Side). IfOk c.ends-2.result (HasClear f h l.id x.right.id y.decisions)) c.in_ok-settled.ensures.left
    (subst (λ (r : Side). IfOk c.ends-2.result (HasClear f h y.left.id r.id y.decisions)) c.in_ok-settled.ensures.right
    (c.ends-2.ensures.clear h (subst (IsSideOf h) (sym c.in_ok-settled.ensures.left) found.1.left_side) (subst (IsSideOf h) (sym c.in_ok-settled.ensures.right) found.1.right_side))))

pub returns-clause-damaged : goal.returns-clause-damaged
returns-clause-damaged g c = kept_damage (g.K.Keeper.contents c.ends-2.new.draft.keeper.now) c.args.draft.now.pending c.overridden.new.draft.pending c.ends-2.result (c.in_ok-settled.ensures.pending ∙ c.in_ok-compared.ensures.pending) c.ends-2.ensures.damaged
