use Rattle.std.proofs.Common.{sym, subst}
use Rattle.std.proofs.lemmas.Result.{err_from_is_err_and}
use Rattle.mtn_history.specs.Stands.{IsDraft}
use Rattle.mtn_history.specs.declared.pending.Pending.{Pending}
use Rattle.mtn_ports.proofs.KeptLemmas.{stays_trans}
use Rattle.mtn_reading.proofs.CertReading.{spoken_errs, told_key, told_text}
use Rattle.mtn_reading.proofs.certs.read_cert.Goals as goal

pub returns-in_err-found-clause-reads : goal.returns-in_err-found-clause-reads
returns-in_err-found-clause-reads g c = λ f k s told draft.
    let q = err_from_is_err_and c.from_residual.result c.from_residual.ensures.1 in
    rw (q.1, q.2) (c.in_err-found.ensures.sound f k s told draft)

pub returns-in_err-found-clause-damaged : goal.returns-in_err-found-clause-damaged
returns-in_err-found-clause-damaged g c =
    let q = err_from_is_err_and c.from_residual.result c.from_residual.ensures.1 in
    rw (q.1, q.2) (told_key (g.K.Keeper.contents c.key_for.new.draft.keeper.now) c.args.draft.now.pending c.in_err-found.field-0.0 c.in_err-found.ensures.damaged)

pub returns-in_err-spoken_of-clause-stays : goal.returns-in_err-spoken_of-clause-stays
returns-in_err-spoken_of-clause-stays g c = stays_trans g.K.Keeper.contents g.K.Keeper.leaves g.K.Keeper.faults _ _ _ c.key_for.ensures.stays c.spoken_of.ensures.stays

pub returns-in_err-spoken_of-clause-reads : goal.returns-in_err-spoken_of-clause-reads
returns-in_err-spoken_of-clause-reads g c = λ f k s told draft.
    let p = c.args.cert.now in
    let q = err_from_is_err_and c.from_residual-in_err-spoken_of.result c.from_residual-in_err-spoken_of.ensures.1 in
    let before = c.spoken_of.ensures.stays.same k told in
    let mid = subst (λ (x : Pending). IsDraft f k x s) (sym c.key_for.ensures.pending) draft in
    rw (q.1, q.2) (spoken_errs s p.revision p.value p.signature f k p.name p.key c.in_ok-found.found (c.in_ok-found.ensures.found f k s before draft) c.in_err-spoken_of.field-0.0 c.spoken_of.new.draft.pending
    (c.in_err-spoken_of.ensures.speaks f k s told mid))

pub returns-in_err-spoken_of-clause-damaged : goal.returns-in_err-spoken_of-clause-damaged
returns-in_err-spoken_of-clause-damaged g c =
    let q = err_from_is_err_and c.from_residual-in_err-spoken_of.result c.from_residual-in_err-spoken_of.ensures.1 in
    rw (q.1, q.2) (told_text (g.K.Keeper.contents c.spoken_of.new.draft.keeper.now) c.args.draft.now.pending c.key_for.new.draft.pending c.in_err-spoken_of.field-0.0 c.key_for.ensures.pending c.in_err-spoken_of.ensures.damaged)

pub returns-clause-stays : goal.returns-clause-stays
returns-clause-stays g c =
    stays_trans g.K.Keeper.contents g.K.Keeper.leaves g.K.Keeper.faults _ _ _ c.key_for.ensures.stays
    (stays_trans g.K.Keeper.contents g.K.Keeper.leaves g.K.Keeper.faults _ _ _ c.spoken_of.ensures.stays c.hold_found.ensures.stays)

pub returns-clause-reads : goal.returns-clause-reads
returns-clause-reads g c = λ f k s told draft.
    let before = c.hold_found.ensures.stays.same k told in
    let first = c.spoken_of.ensures.stays.same k before in
    let mid = subst (λ (x : Pending). IsDraft f k x s) (sym c.key_for.ensures.pending) draft in
    let next = subst (λ (x : Pending). IsDraft f k x s) (sym c.spoken_of.ensures.pending) mid in
    c.hold_found.ensures.reads f k s told next (c.in_ok-found.ensures.found f k s first draft) (c.in_ok-spoken_of.ensures.speaks f k s before mid)
