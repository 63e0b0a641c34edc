-- The first refusal, and the tree.
use Rattle.std.proofs.Common.{◌≡◌, ◌∙◌, List, [], None, Some, sym, ap, subst}
use Rattle.std.proofs.lemmas.Result.{err_from_is_err_and}
use Rattle.mtn_changes.specs.declared.change.Edge.{Edge}
use Rattle.mtn_history_laws.specs.History.{Revision}
use Rattle.mtn_replay.specs.Making.{made_tree}
use Rattle.mtn_make_roster.specs.Basis.{Underlies, made_refusal}
use Rattle.mtn_history.proofs.Founding.{back}
use Rattle.mtn_put_revision.specs.Finding.{IsRefusal}
use Rattle.mtn_put_revision.proofs.Refusing.{made_first, made_left}
use Rattle.mtn_put_revision.proofs.tree.tree_of.Goals as goal

pub returns-in-Err-Refused-clause-refused : goal.returns-in-Err-Refused-clause-refused
returns-in-Err-Refused-clause-refused g c = λ s d.
    made_first (g.I.Ident.meaning c.args.ident.now) s.files d.stands.history c.args.new c.args.read.now c.in-Err-Refused.cause
    ((subst (λ (es : List Edge). (h : List Revision) → Underlies h es c.args.basis.now c.args.new → made_refusal h c.args.new es ≡ Some c.in-Err-Refused.cause) c.as_slice.ensures (rw c.in-Err-Refused.field-0-is at c.in-Err-Refused.ensures.err)) d.stands.history (c.requires.based (g.I.Ident.meaning c.args.ident.now) s d)) ∙ ap Some (sym c.in-Err-Refused.cause-is)

pub returns-in-Err-Damaged-clause-damaged : goal.returns-in-Err-Damaged-clause-damaged
returns-in-Err-Damaged-clause-damaged g c = c.unfit.ensures.damaged (λ f s d. (subst (λ (es : List Edge). (h : List Revision) → Underlies h es c.args.basis.now c.args.new → ⊥) c.as_slice.ensures (rw c.in-Err-Damaged.field-0-is at c.in-Err-Damaged.ensures.err)) d.stands.history (c.requires.based f s d))

pub unfit-requires-clause-logged : goal.unfit-requires-clause-logged
unfit-requires-clause-logged g c = λ none. absurd ((subst (λ (es : List Edge). (h : List Revision) → Underlies h es c.args.basis.now c.args.new → ⊥) c.as_slice.ensures (rw c.in-Err-Damaged.field-0-is at c.in-Err-Damaged.ensures.err)) [] (c.requires.root none))

pub returns-clause-tree : goal.returns-clause-tree
returns-clause-tree g c = λ f s d.
    let u = c.requires.based f s (back f (g.K.Keeper.contents c.args.draft.now.keeper.now) (g.K.Keeper.contents c.accept_tree.new.draft.keeper.now) c.args.draft.now.pending s c.accept_tree.ensures.stays.same d) in
    (subst (λ (es : List Edge). (h : List Revision) → Underlies h es c.args.basis.now c.args.new → c.in-Ok.made.tree ≡ made_tree h c.args.new es) c.as_slice.ensures c.in-Ok.ensures.tree) d.stands.history u

pub returns-clause-made : goal.returns-clause-made
returns-clause-made g c = λ h under. (
  (subst (λ (es : List Edge). (h : List Revision) → Underlies h es c.args.basis.now c.args.new → c.in-Ok.made.tree ≡ made_tree h c.args.new es) c.as_slice.ensures c.in-Ok.ensures.tree) h under,
  (subst (λ (es : List Edge). (h : List Revision) → Underlies h es c.args.basis.now c.args.new → made_refusal h c.args.new es ≡ None) c.as_slice.ensures c.in-Ok.ensures.fine) h under,
)

pub returns-in-Err-Damaged-clause-reads : goal.returns-in-Err-Damaged-clause-reads
returns-in-Err-Damaged-clause-reads g c = λ f s at ids.
    let d = back f (g.K.Keeper.contents c.args.draft.now.keeper.now) (g.K.Keeper.contents c.unfit.new.draft.keeper.now) c.args.draft.now.pending s c.unfit.ensures.stays.same at in
    absurd ((subst (λ (es : List Edge). (h : List Revision) → Underlies h es c.args.basis.now c.args.new → ⊥) c.as_slice.ensures (rw c.in-Err-Damaged.field-0-is at c.in-Err-Damaged.ensures.err)) d.stands.history (c.requires.based f s d))

pub returns-in_err-accept_tree-clause-refused : goal.returns-in_err-accept_tree-clause-refused
returns-in_err-accept_tree-clause-refused g c = λ s d.
    let f = g.I.Ident.meaning c.args.ident.now in
    let u = c.requires.based f s (back f (g.K.Keeper.contents c.args.draft.now.keeper.now) (g.K.Keeper.contents c.accept_tree.new.draft.keeper.now) c.args.draft.now.pending s c.accept_tree.ensures.stays.same d) in
    let p = err_from_is_err_and c.from_residual.result c.from_residual.ensures.1 in
    rw (p.1, p.2) (subst (λ o. IsRefusal o c.in_err-accept_tree.field-0.0) (sym (made_left f s.files d.stands.history c.args.new c.args.read.now c.in-Ok.made.tree
    ((subst (λ (es : List Edge). (h : List Revision) → Underlies h es c.args.basis.now c.args.new → made_refusal h c.args.new es ≡ None) c.as_slice.ensures c.in-Ok.ensures.fine) d.stands.history u)
    ((subst (λ (es : List Edge). (h : List Revision) → Underlies h es c.args.basis.now c.args.new → c.in-Ok.made.tree ≡ made_tree h c.args.new es) c.as_slice.ensures c.in-Ok.ensures.tree) d.stands.history u))) (c.in_err-accept_tree.ensures.refused s d))

pub returns-clause-fine : goal.returns-clause-fine
returns-clause-fine g c = λ s d.
    let f = g.I.Ident.meaning c.args.ident.now in
    let u = c.requires.based f s (back f (g.K.Keeper.contents c.args.draft.now.keeper.now) (g.K.Keeper.contents c.accept_tree.new.draft.keeper.now) c.args.draft.now.pending s c.accept_tree.ensures.stays.same d) in
    made_left f s.files d.stands.history c.args.new c.args.read.now c.in-Ok.made.tree
    ((subst (λ (es : List Edge). (h : List Revision) → Underlies h es c.args.basis.now c.args.new → made_refusal h c.args.new es ≡ None) c.as_slice.ensures c.in-Ok.ensures.fine) d.stands.history u)
    ((subst (λ (es : List Edge). (h : List Revision) → Underlies h es c.args.basis.now c.args.new → c.in-Ok.made.tree ≡ made_tree h c.args.new es) c.as_slice.ensures c.in-Ok.ensures.tree) d.stands.history u) ∙ c.in_ok-accept_tree.ensures.fine s d
