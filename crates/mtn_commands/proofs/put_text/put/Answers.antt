-- By what is known of the text.
use Rattle.std.specs.Prelude.{IfSome}
use Rattle.std.proofs.Common.{◌≡◌, Option, subst}
use Rattle.std.proofs.lemmas.Result.{err_from_is_err_and}
use Rattle.mtn_commands.specs.declared.put_text.KnownText.{KnownText}
use Rattle.mtn_put_revision.specs.Keeping.{IsPlanned}
use Rattle.mtn_commands.proofs.put_text.put.Goals as goal

pub put_revision_as-requires-clause-id : goal.put_revision_as-requires-clause-id
put_revision_as-requires-clause-id g c = λ κs alive.
    subst (λ (o : Option KnownText). IfSome o (λ k. k.id.0 ≡ g.I.Ident.meaning c.args.ident.now c.args.text.now)) c.in-Some.is c.requires.id

pub put_revision_as-requires-clause-planned : goal.put_revision_as-requires-clause-planned
put_revision_as-requires-clause-planned g c = λ κs alive s d.
    let f = g.I.Ident.meaning c.args.ident.now in
    subst (λ (o : Option KnownText). IfSome o (λ k. IfSome k.tree (λ t. IsPlanned f s.files d.stands.history c.args.text.now t))) c.in-Some.is (c.requires.planned s d)

pub returns-in_err-put_revision_as-in-Some-clause-accepts : goal.returns-in_err-put_revision_as-in-Some-clause-accepts
returns-in_err-put_revision_as-in-Some-clause-accepts g c = λ x s tells draft.
    let p = err_from_is_err_and c.from_residual.result c.from_residual.ensures.1 in
    rw (p.1, p.2) (c.in_err-put_revision_as-in-Some.ensures.accepts x s tells draft)

pub returns-in_err-put_revision_as-in-Some-clause-damaged : goal.returns-in_err-put_revision_as-in-Some-clause-damaged
returns-in_err-put_revision_as-in-Some-clause-damaged g c =
    let p = err_from_is_err_and c.from_residual.result c.from_residual.ensures.1 in
    rw (p.1, p.2) c.in_err-put_revision_as-in-Some.ensures.damaged

pub returns-in_ok-put_revision_as-in-Some-clause-accepts : goal.returns-in_ok-put_revision_as-in-Some-clause-accepts
returns-in_ok-put_revision_as-in-Some-clause-accepts g c = λ x s tells draft.
    (subst (λ (o : Option KnownText). IfSome o (λ k. k.id.0 ≡ g.I.Ident.meaning c.args.ident.now c.args.text.now)) c.in-Some.is c.requires.id, c.in_ok-put_revision_as-in-Some.ensures.accepts x s tells draft)
