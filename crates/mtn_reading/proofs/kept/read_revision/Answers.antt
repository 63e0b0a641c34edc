use Rattle.std.proofs.lemmas.Result.{err_from_is_err_and}
use Rattle.mtn_reading.proofs.KeptReading.{revision_errs, revision_reads}
use Rattle.mtn_reading.proofs.kept.read_revision.Goals as goal

pub returns-in_err-put_revision_as-clause-reads : goal.returns-in_err-put_revision_as-clause-reads
returns-in_err-put_revision_as-clause-reads g c = λ k s told draft.
    let p = err_from_is_err_and c.from_residual.result c.from_residual.ensures.1 in
    rw (p.1, p.2) (revision_errs (g.I.Ident.meaning c.args.ident.now) k s c.args.id c.args.text.now c.in_err-put_revision_as.field-0.0 c.put_revision_as.new.draft.pending (c.in_err-put_revision_as.ensures.accepts k s told draft))

pub returns-clause-reads : goal.returns-clause-reads
returns-clause-reads g c = λ k s told draft.
    revision_reads (g.I.Ident.meaning c.args.ident.now) k s c.args.id c.args.text.now c.args.draft.now.pending c.put_revision_as.new.draft.pending c.count-before.result c.count.result c.one_where.result draft
    c.count-before.ensures c.count.ensures c.one_where.ensures (c.in_ok-put_revision_as.ensures.accepts k s told draft)
