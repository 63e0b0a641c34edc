-- The text is put, and what is said of it is held.
use Rattle.std.specs.Prelude.{option_copied}
use Rattle.std.proofs.Common.{Some, None, Err, ap, ◌∙◌, sym}
use Rattle.std.proofs.lemmas.Result.{err_from_is_err_and}
use Rattle.mtn_ports.proofs.KeptLemmas.{rose_before, stays_trans}
use Rattle.mtn_commands.specs.Certifying.{ending}
use Rattle.mtn_commands.proofs.CommitLemmas.{is_put, put_alone, put_errs, put_said, said_errs}
use Rattle.mtn_commands.proofs.DraftLemmas.{answered, failed, never_damaged, wanted}
use Rattle.mtn_commands.proofs.put_text.put_text.Goals as goal

pub returns-in_err-id-clause-drafts : goal.returns-in_err-id-clause-drafts
returns-in_err-id-clause-drafts g c =
    let f = g.I.Ident.meaning c.args.ident.now in
    let said = option_copied c.args.said in
    let e = c.in_err-id.field-0.0 in
    let p = err_from_is_err_and c.from_residual.result c.from_residual.ensures.1 in
    failed f g.K.Keeper.contents g.K.Keeper.leaves g.K.Keeper.faults c.args.draft.now.keeper.now c.put.new.draft.keeper.now c.args.draft.now.pending c.put.new.draft.pending
    (ending f said c.args.text.now) c.in_err-id.ensures.stays c.from_residual.result e (p.1 ∙ ap Err p.2)
    (λ k s told draft. put_errs f c.args.text.now said k s e c.put.new.draft.pending (c.in_err-id.ensures.accepts k s told draft)) c.in_err-id.ensures.damaged (λ is. c.in_err-id.ensures.failed (ap Err is))

pub returns-in_ok-id_text-in-None-clause-drafts : goal.returns-in_ok-id_text-in-None-clause-drafts
returns-in_ok-id_text-in-None-clause-drafts g c =
    let f = g.I.Ident.meaning c.args.ident.now in
    rw c.in-None.is
    (answered f g.K.Keeper.contents g.K.Keeper.leaves g.K.Keeper.faults c.args.draft.now.keeper.now c.put.new.draft.keeper.now c.args.draft.now.pending c.put.new.draft.pending
    (ending f None c.args.text.now) c.in_ok-id.ensures.stays c.in_ok-id_text-in-None.field-0
    (λ k s told draft. put_alone f c.args.text.now k s c.in_ok-id.id c.put.new.draft.pending c.in_ok-id_text-in-None.field-0 c.in_ok-id_text-in-None.ensures (c.in_ok-id.ensures.accepts k s told draft)))

pub returns-in_err-certify-in-Some-clause-drafts : goal.returns-in_err-certify-in-Some-clause-drafts
returns-in_err-certify-in-Some-clause-drafts g c =
    let f = g.I.Ident.meaning c.args.ident.now in
    let text = c.args.text.now in
    let said = c.in-Some.said.now in
    let mid = c.put.new.draft in
    let e = c.in_err-certify-in-Some.field-0.0 in
    let p = err_from_is_err_and c.from_residual-in_err-certify-in-Some.result c.from_residual-in_err-certify-in-Some.ensures.1 in
    rw c.in-Some.is
    (failed f g.K.Keeper.contents g.K.Keeper.leaves g.K.Keeper.faults c.args.draft.now.keeper.now c.certify.new.draft.keeper.now c.args.draft.now.pending c.certify.new.draft.pending
    (ending f (Some said) text) (stays_trans g.K.Keeper.contents g.K.Keeper.leaves g.K.Keeper.faults _ _ _ c.in_ok-id.ensures.stays c.in_err-certify-in-Some.ensures.stays)
    c.from_residual-in_err-certify-in-Some.result e (p.1 ∙ ap Err p.2)
    (λ k s told draft.
    let a = c.in_ok-id.ensures.accepts k s (c.in_err-certify-in-Some.ensures.stays.same k told) draft in
    said_errs f text said k s c.in_ok-id.id mid.pending a e c.certify.new.draft.pending (c.in_err-certify-in-Some.ensures.certifies f k a.1.0 told a.1.2 (is_put f text said k s c.in_ok-id.id mid.pending a)))
    (never_damaged (g.K.Keeper.contents c.certify.new.draft.keeper.now) c.args.draft.now.pending e c.in_err-certify-in-Some.ensures.sound)
    (λ is. rose_before (g.K.Keeper.faults c.args.draft.now.keeper.now) (g.K.Keeper.faults mid.keeper.now) (g.K.Keeper.faults c.certify.new.draft.keeper.now) c.in_ok-id.ensures.stays.later (c.in_err-certify-in-Some.ensures.failed (ap Err is))))

pub returns-in_err-id_text-in-Some-clause-drafts : goal.returns-in_err-id_text-in-Some-clause-drafts
returns-in_err-id_text-in-Some-clause-drafts g c =
    let f = g.I.Ident.meaning c.args.ident.now in
    let p = err_from_is_err_and c.from_residual-in_err-id_text-in-Some.result c.from_residual-in_err-id_text-in-Some.ensures.1 in
    wanted f g.K.Keeper.contents g.K.Keeper.leaves g.K.Keeper.faults c.args.draft.now.keeper.now c.certify.new.draft.keeper.now c.args.draft.now.pending c.certify.new.draft.pending
    (ending f (option_copied c.args.said) c.args.text.now) (stays_trans g.K.Keeper.contents g.K.Keeper.leaves g.K.Keeper.faults _ _ _ c.in_ok-id.ensures.stays c.in_ok-certify-in-Some.ensures.stays)
    c.from_residual-in_err-id_text-in-Some.result (p.1 ∙ ap Err p.2)

pub returns-in_ok-id_text-in-Some-clause-drafts : goal.returns-in_ok-id_text-in-Some-clause-drafts
returns-in_ok-id_text-in-Some-clause-drafts g c =
    let f = g.I.Ident.meaning c.args.ident.now in
    let text = c.args.text.now in
    let said = c.in-Some.said.now in
    let mid = c.put.new.draft in
    rw c.in-Some.is
    (answered f g.K.Keeper.contents g.K.Keeper.leaves g.K.Keeper.faults c.args.draft.now.keeper.now c.certify.new.draft.keeper.now c.args.draft.now.pending c.certify.new.draft.pending
    (ending f (Some said) text) (stays_trans g.K.Keeper.contents g.K.Keeper.leaves g.K.Keeper.faults _ _ _ c.in_ok-id.ensures.stays c.in_ok-certify-in-Some.ensures.stays) c.in_ok-id_text-in-Some.field-0
    (λ k s told draft.
    let a = c.in_ok-id.ensures.accepts k s (c.in_ok-certify-in-Some.ensures.stays.same k told) draft in
    put_said f text said k s c.in_ok-id.id mid.pending a c.certify.new.draft.pending c.in_ok-id_text-in-Some.field-0 c.in_ok-id_text-in-Some.ensures
    (c.in_ok-certify-in-Some.ensures.certifies f k a.1.0 told a.1.2 (is_put f text said k s c.in_ok-id.id mid.pending a))))

pub returns-in_err-certify-in-Some-clause-reads : goal.returns-in_err-certify-in-Some-clause-reads
returns-in_err-certify-in-Some-clause-reads g c = λ none. absurd (let both = sym none ∙ ap option_copied c.in-Some.is in cc)

pub returns-in_err-id_text-in-Some-clause-reads : goal.returns-in_err-id_text-in-Some-clause-reads
returns-in_err-id_text-in-Some-clause-reads g c = λ none. absurd (let both = sym none ∙ ap option_copied c.in-Some.is in cc)

pub returns-in_ok-id_text-in-Some-clause-reads : goal.returns-in_ok-id_text-in-Some-clause-reads
returns-in_ok-id_text-in-Some-clause-reads g c = λ none. absurd (let both = sym none ∙ ap option_copied c.in-Some.is in cc)
