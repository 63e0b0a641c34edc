-- The tree of the decisions, and its text.
use Rattle.mtn_basic_io.specs.Spelling.{AreStanzas}
use Rattle.mtn_changes.specs.RevisionText.{revision_stanzas}
use Rattle.mtn_history.specs.declared.errors.HistoryError.{HistoryError}
use Rattle.mtn_merge.specs.declared.answer.Planned.{Planned}
use Rattle.mtn_changeset_laws.specs.Changes.{or_else}
use Rattle.mtn_replay.specs.Making.{too_long, too_many}
use Rattle.std.proofs.Common.{◌≡◌, Result, ◌∙◌, ℕ, None, Err, length, sym, ap, subst, arith}
use Rattle.std.proofs.lemmas.Result.{err_from_is_err_and}
use Rattle.mtn_base.specs.declared.limits.TheConstants.{MAX_TEXT}
use Rattle.mtn_base.specs.declared.refusal.Cause.TheVariants.{TextTooLong}
use Rattle.mtn_changeset_laws.specs.Laws.{NoneBornIn}
use Rattle.mtn_marking.specs.Marking.{MarkedTree}
use Rattle.mtn_roster.specs.Tree.{Tree}
use Rattle.mtn_merge.specs.Plans.{Gives, IsLimitOf, IsMadeOf, outcomes, revision_of_sides, text_of_sides}
use Rattle.mtn_merge.proofs.Making.{kept, limit_made, long_test, made, short_test, text_too_long}
use Rattle.mtn_merge.proofs.made.merged.Goals as goal

pub returns-in_err-old-clause-made : goal.returns-in_err-old-clause-made
returns-in_err-old-clause-made g c = λ h sl sr.
    let f = g.I.Ident.meaning c.args.ident.now in
    let l = c.args.left.now in
    let r = c.args.right.now in
    let m = c.args.decisions.now in
    let e = c.in_err-old.field-0.0 in
    let tl = c.roster-old_left.ensures.tree ∙ ap (λ (y : MarkedTree). y.tree) c.marked.ensures in
    let tr = c.roster-old_right.ensures.tree ∙ ap (λ (y : MarkedTree). y.tree) c.marked-2.ensures in
    let p = err_from_is_err_and c.from_residual.result c.from_residual.ensures.1 in
    subst (λ (z : Result Planned HistoryError). Gives (IsMadeOf f h l.id r.id m) (outcomes z)) (sym (p.1 ∙ ap Err p.2))
    (limit_made f h l r m sl sr e (subst (λ (u : Tree). IsLimitOf u r.roster.tree m e) tl (subst (λ (u : Tree). IsLimitOf c.roster-old_left.result.now u m e) tr c.in_err-old.ensures.refused)))

pub returns-then-as_slice-gt-MAX_TEXT-clause-made : goal.returns-then-as_slice-gt-MAX_TEXT-clause-made
returns-then-as_slice-gt-MAX_TEXT-clause-made g c = λ h sl sr.
    let f = g.I.Ident.meaning c.args.ident.now in
    let l = c.args.left.now in
    let r = c.args.right.now in
    let mk = c.in_ok-old.ensures.made in
    let x = mk.0 in
    let t = c.either-made.result.now in
    let fine = subst (λ (u : Tree). or_else (too_many u) (too_long u) ≡ None) (sym c.either-made.ensures) c.in_ok-old.ensures.fine in
    let tl = c.roster-old_left.ensures.tree ∙ ap (λ (y : MarkedTree). y.tree) c.marked.ensures in
    let tr = c.roster-old_right.ensures.tree ∙ ap (λ (y : MarkedTree). y.tree) c.marked-2.ensures in
    let same = c.in_ok-text.ensures.text ∙ ap (λ (u : Tree). text_of_sides f l.id u r.id c.roster-old_right.result.now t) tl ∙ ap (λ (u : Tree). text_of_sides f l.id l.roster.tree r.id u t) tr in
    let long = long_test (length c.in_ok-text.text) MAX_TEXT (omega (arith, c.if-as_slice-gt-MAX_TEXT.true, ap length c.as_slice.ensures)) in
    subst (λ (n : ℕ). IsMadeOf f h l.id r.id c.args.decisions.now (Err (TextTooLong n))) (sym (ap length c.as_slice-then-as_slice-gt-MAX_TEXT.ensures))
    (text_too_long f h l r c.args.decisions.now sl sr x (subst (λ (u : Tree). NoneBornIn u x) tl mk.1) (subst (λ (u : Tree). NoneBornIn u x) tr mk.2) t (c.either-made.ensures ∙ mk.3)
    fine c.in_ok-text.text same long)

pub returns-clause-made : goal.returns-clause-made
returns-clause-made g c = λ h sl sr.
    let f = g.I.Ident.meaning c.args.ident.now in
    let l = c.args.left.now in
    let r = c.args.right.now in
    let mk = c.in_ok-old.ensures.made in
    let x = mk.0 in
    let t = c.either-made.result.now in
    let fine = subst (λ (u : Tree). or_else (too_many u) (too_long u) ≡ None) (sym c.either-made.ensures) c.in_ok-old.ensures.fine in
    let tl = c.roster-old_left.ensures.tree ∙ ap (λ (y : MarkedTree). y.tree) c.marked.ensures in
    let tr = c.roster-old_right.ensures.tree ∙ ap (λ (y : MarkedTree). y.tree) c.marked-2.ensures in
    let same = c.in_ok-text.ensures.text ∙ ap (λ (u : Tree). text_of_sides f l.id u r.id c.roster-old_right.result.now t) tl ∙ ap (λ (u : Tree). text_of_sides f l.id l.roster.tree r.id u t) tr in
    let short = short_test (length c.in_ok-text.text) MAX_TEXT (omega (arith, c.if-as_slice-gt-MAX_TEXT.false, ap length c.as_slice.ensures)) in
    made f h l r c.args.decisions.now sl sr x (subst (λ (u : Tree). NoneBornIn u x) tl mk.1) (subst (λ (u : Tree). NoneBornIn u x) tr mk.2) t (c.either-made.ensures ∙ mk.3)
    fine c.in_ok-text.text same short

pub returns-clause-ids : goal.returns-clause-ids
returns-clause-ids g c = c.id-id.ensures ∙ ap (g.I.Ident.meaning c.args.ident.now) c.as_slice-2.ensures

pub returns-clause-kept : goal.returns-clause-kept
returns-clause-kept g c = λ h sl sr.
    let f = g.I.Ident.meaning c.args.ident.now in
    let l = c.args.left.now in
    let r = c.args.right.now in
    let mk = c.in_ok-old.ensures.made in
    let x = mk.0 in
    let t = c.either-made.result.now in
    let fine = subst (λ (u : Tree). or_else (too_many u) (too_long u) ≡ None) (sym c.either-made.ensures) c.in_ok-old.ensures.fine in
    let tl = c.roster-old_left.ensures.tree ∙ ap (λ (y : MarkedTree). y.tree) c.marked.ensures in
    let tr = c.roster-old_right.ensures.tree ∙ ap (λ (y : MarkedTree). y.tree) c.marked-2.ensures in
    let same = c.in_ok-text.ensures.text ∙ ap (λ (u : Tree). text_of_sides f l.id u r.id c.roster-old_right.result.now t) tl ∙ ap (λ (u : Tree). text_of_sides f l.id l.roster.tree r.id u t) tr in
    let short = short_test (length c.in_ok-text.text) MAX_TEXT (omega (arith, c.if-as_slice-gt-MAX_TEXT.false, ap length c.as_slice.ensures)) in
    let stanzas = subst (λ (u : Tree). AreStanzas (revision_stanzas (revision_of_sides f l.id u r.id r.roster.tree t))) tl (subst (λ (u : Tree). AreStanzas (revision_stanzas (revision_of_sides f l.id c.roster-old_left.result.now r.id u t))) tr c.in_ok-text.ensures.stanzas) in
    kept f h l r c.args.decisions.now sl sr x (subst (λ (u : Tree). NoneBornIn u x) tl mk.1) (subst (λ (u : Tree). NoneBornIn u x) tr mk.2) t (c.either-made.ensures ∙ mk.3)
    fine c.in_ok-text.text same short stanzas c.id-id.result (c.id-id.ensures ∙ ap f c.as_slice-2.ensures) c.in_ok-tree.tree c.in_ok-tree.ensures
