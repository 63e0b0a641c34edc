use Rattle.std.proofs.Common.{rules, sym, ap, ◌∙◌, subst, Ok, Err}
use Rattle.std.specs.Prelude.{IfErr, IfSome, OnOk}
use Rattle.std.proofs.lemmas.Result.{err_from_is_err_and}
use Rattle.mtn_ports.proofs.KeptLemmas.{stays_trans}
use Rattle.mtn_history.specs.Errors.{IfDamage}
use Rattle.mtn_check_log.specs.Positions.{IsOtherAt, IsSameAt}
use Rattle.mtn_check_log.proofs.Told.{AreWrong, IsOver, differs, told_never, told_other_id, told_refused, told_known, told_right, told_wrong}
use Rattle.mtn_check_log.proofs.checked.check_text.Goals as goal

pub returns-then-ne-clause-wrong : goal.returns-then-ne-clause-wrong
returns-then-ne-clause-wrong g c =
    told_other_id (g.I.Ident.meaning c.args.ident.now) c.args.at c.args.entry.now.record c.args.entry.now.body.items c.args.body.now c.args.text.now (g.K.Keeper.contents c.args.keeper.now) c.bad.result c.requires.entry c.requires.text (λ same. differs c.ne.result c.id-id.result.0 c.args.entry.now.record.id.0 c.if-ne.true c.ne.ensures (c.id-id.ensures ∙ same)) c.bad.ensures.damaged

pub returns-in_err-due-clause-wrong : goal.returns-in_err-due-clause-wrong
returns-in_err-due-clause-wrong g c =
    let p = err_from_is_err_and c.from_residual.result c.from_residual.ensures.1 in
    subst (λ o. IfSome (g.K.Keeper.contents c.due_at.new.keeper) (λ k. IfErr o (λ e. AreWrong (g.I.Ident.meaning c.args.ident.now) c.args.at e k))) (sym (p.1 ∙ ap Err p.2))
    (told_never (g.I.Ident.meaning c.args.ident.now) (g.K.Keeper.contents c.due_at.new.keeper) c.args.at c.args.text.now c.in_err-due.field-0.0 c.in_err-due.ensures.again)

pub returns-in-Some-clause-stays : goal.returns-in-Some-clause-stays
returns-in-Some-clause-stays g c = stays_trans g.K.Keeper.contents g.K.Keeper.leaves g.K.Keeper.faults _ _ _ c.in_ok-due.ensures.stays c.compare.ensures.stays

pub returns-in-Some-clause-right : goal.returns-in-Some-clause-right
returns-in-Some-clause-right g c =
    told_right (g.I.Ident.meaning c.args.ident.now) c.args.at c.args.entry.now.record c.args.entry.now.body.items c.args.body.now c.args.text.now (search rules) c.in-Some.due (g.K.Keeper.contents c.args.keeper.now) (g.K.Keeper.contents c.due_at.new.keeper) c.in_ok-due.ensures.stays.same c.requires.entry c.requires.text
    (subst (λ o. IsOver (g.I.Ident.meaning c.args.ident.now) (g.K.Keeper.contents c.due_at.new.keeper) c.args.at c.args.text.now (Ok o)) c.in-Some.is c.in_ok-due.ensures.again)
    (g.K.Keeper.contents c.compare.new.keeper) c.compare.result c.compare.ensures.stays.same
    (subst (λ l. IfSome (g.K.Keeper.contents c.compare.new.keeper) (λ k. OnOk c.compare.result (IsSameAt k c.args.at l c.in-Some.due.records))) c.deref.ensures.value c.compare.ensures.same)

pub returns-in-Some-clause-known : goal.returns-in-Some-clause-known
returns-in-Some-clause-known g c =
    told_known (g.I.Ident.meaning c.args.ident.now) c.args.at c.args.entry.now.record c.args.entry.now.body.items c.args.body.now c.args.text.now (search rules) c.in-Some.due (g.K.Keeper.contents c.args.keeper.now) (g.K.Keeper.contents c.due_at.new.keeper) c.in_ok-due.ensures.stays.same c.requires.entry c.requires.text
    (subst (λ o. IsOver (g.I.Ident.meaning c.args.ident.now) (g.K.Keeper.contents c.due_at.new.keeper) c.args.at c.args.text.now (Ok o)) c.in-Some.is c.in_ok-due.ensures.again)
    (g.K.Keeper.contents c.compare.new.keeper) c.compare.result c.compare.ensures.stays.same
    (subst (λ l. IfSome (g.K.Keeper.contents c.compare.new.keeper) (λ k. OnOk c.compare.result (IsSameAt k c.args.at l c.in-Some.due.records))) c.deref.ensures.value c.compare.ensures.same)
    c.compare.ensures.memory

pub returns-in-Some-clause-wrong : goal.returns-in-Some-clause-wrong
returns-in-Some-clause-wrong g c =
    told_wrong (g.I.Ident.meaning c.args.ident.now) c.args.at c.args.entry.now.record c.args.entry.now.body.items c.args.body.now c.args.text.now (search rules) c.in-Some.due (g.K.Keeper.contents c.args.keeper.now) (g.K.Keeper.contents c.due_at.new.keeper) c.in_ok-due.ensures.stays.same c.requires.entry c.requires.text
    (subst (λ o. IsOver (g.I.Ident.meaning c.args.ident.now) (g.K.Keeper.contents c.due_at.new.keeper) c.args.at c.args.text.now (Ok o)) c.in-Some.is c.in_ok-due.ensures.again)
    (g.K.Keeper.contents c.compare.new.keeper) c.compare.result c.compare.ensures.stays.same
    (subst (λ l. IfSome (g.K.Keeper.contents c.compare.new.keeper) (λ k. IfErr c.compare.result (λ e. IfDamage e (IsOtherAt k c.args.at l c.in-Some.due.records)))) c.deref.ensures.value c.compare.ensures.damaged)

pub returns-in-None-clause-wrong : goal.returns-in-None-clause-wrong
returns-in-None-clause-wrong g c =
    told_refused (g.I.Ident.meaning c.args.ident.now) c.args.at c.args.entry.now.record c.args.entry.now.body.items c.args.body.now c.args.text.now (search rules) (g.K.Keeper.contents c.args.keeper.now) (g.K.Keeper.contents c.due_at.new.keeper) c.bad-in-None.result c.in_ok-due.ensures.stays.same c.requires.entry c.requires.text
    (subst (λ o. IsOver (g.I.Ident.meaning c.args.ident.now) (g.K.Keeper.contents c.due_at.new.keeper) c.args.at c.args.text.now (Ok o)) c.in-None.is c.in_ok-due.ensures.again) c.bad-in-None.ensures.damaged
