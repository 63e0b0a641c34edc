use Rattle.std.proofs.Common.{Err, Ok, Some, subst, sym}
use Rattle.mtn_ports.proofs.KeptLemmas.{stays_trans}
use Rattle.mtn_put_revision.specs.Accepting.{KeepsRevision}
use Rattle.mtn_ports.specs.Kept.{with_all}
use Rattle.mtn_check_log.specs.Positions.{IsTaken}
use Rattle.mtn_check_log.proofs.Bringing.{brings, refused_again}
use Rattle.mtn_check_log.proofs.again.put_again.Goals as goal

pub returns-in_err-records_of-in-Ok-clause-stays : goal.returns-in_err-records_of-in-Ok-clause-stays
returns-in_err-records_of-in-Ok-clause-stays g c = stays_trans g.K.Keeper.contents g.K.Keeper.leaves g.K.Keeper.faults _ _ _ c.in-Ok.ensures.stays c.in_err-records_of-in-Ok.ensures.stays

pub returns-in-Ok-clause-stays : goal.returns-in-Ok-clause-stays
returns-in-Ok-clause-stays g c = stays_trans g.K.Keeper.contents g.K.Keeper.leaves g.K.Keeper.faults _ _ _ c.in-Ok.ensures.stays c.in_ok-records_of-in-Ok.ensures.stays

pub returns-in-Ok-clause-again : goal.returns-in-Ok-clause-again
returns-in-Ok-clause-again g c d s at draft =
    subst (λ p. IsTaken (g.I.Ident.meaning c.args.ident.now) s c.args.at c.args.text.now (with_all d p.batch) (Ok (Some c.in_ok-records_of-in-Ok.field-0))) (sym c.in_ok-records_of-in-Ok.ensures.pending)
    (brings (g.I.Ident.meaning c.args.ident.now) (g.K.Keeper.contents c.put_revision_as.new.draft.keeper.now) (g.K.Keeper.contents c.records_of.new.draft.keeper.now) c.put_revision_as.new.draft.pending
    s c.args.at c.args.text.now c.in_ok-records_of-in-Ok.field-0 d c.in_ok-records_of-in-Ok.ensures.stays.same at (λ told. c.in-Ok.ensures.accepts d s told draft) c.in_ok-records_of-in-Ok.ensures.found)

pub returns-in-Err-Refused-clause-again : goal.returns-in-Err-Refused-clause-again
returns-in-Err-Refused-clause-again g c d s at draft =
    refused_again (g.I.Ident.meaning c.args.ident.now) d s c.args.at c.args.text.now c.in-Err-Refused.field-0-0 c.put_revision_as.new.draft.pending
    (subst (λ e. KeepsRevision (g.I.Ident.meaning c.args.ident.now) d s c.args.text.now (Err e) c.put_revision_as.new.draft.pending) c.in-Err-Refused.field-0-is (c.in-Err-Refused.ensures.accepts d s at draft))
