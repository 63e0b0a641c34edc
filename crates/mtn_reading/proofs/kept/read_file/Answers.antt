use Rattle.std.specs.Prelude.{IfSome}
use Rattle.std.proofs.Common.{ℕ, List, Ok, Err, sym, ap, subst, Option, ◌∙◌}
use Rattle.std.proofs.lemmas.Result.{err_from_is_err_and}
use Rattle.mtn_history.specs.Files.{IsFileHeld, KeepsFile}
use Rattle.mtn_history.specs.Stands.{IsDraft}
use Rattle.mtn_history.specs.declared.pending.Pending.{Pending}
use Rattle.mtn_model.specs.Table.{Contents}
use Rattle.mtn_ports.proofs.KeptLemmas.{stays_trans}
use Rattle.mtn_ports.specs.Kept.{with_all}
use Rattle.mtn_reading.proofs.KeptReading.{file_errs, file_reads}
use Rattle.mtn_reading.proofs.kept.read_file.Goals as goal

pub returns-in_err-put_file_as-clause-stays : goal.returns-in_err-put_file_as-clause-stays
returns-in_err-put_file_as-clause-stays g c = stays_trans g.K.Keeper.contents g.K.Keeper.leaves g.K.Keeper.faults _ _ _ c.has_file.ensures.asks.stays c.put_file_as.ensures.stays

pub returns-in_err-put_file_as-clause-reads : goal.returns-in_err-put_file_as-clause-reads
returns-in_err-put_file_as-clause-reads g c = λ f k s told draft same.
    let p = err_from_is_err_and c.from_residual-in_err-put_file_as.result c.from_residual-in_err-put_file_as.ensures.1 in
    let mid = subst (λ (x : Pending). IsDraft f k x s) (sym c.has_file.ensures.asks.pending) draft in
    rw (p.1, p.2) (file_errs f k s c.args.id c.args.bytes.now c.in_err-put_file_as.field-0.0 c.put_file_as.new.self.pending
    (subst (λ (b : List ℕ). KeepsFile f k s b (Err c.in_err-put_file_as.field-0.0) c.put_file_as.new.self.pending) c.in_ok-copy.ensures (c.in_err-put_file_as.ensures.accepts f k s told mid (same ∙ ap f (sym c.in_ok-copy.ensures)))))

pub returns-clause-stays : goal.returns-clause-stays
returns-clause-stays g c = stays_trans g.K.Keeper.contents g.K.Keeper.leaves g.K.Keeper.faults _ _ _ c.has_file.ensures.asks.stays c.put_file_as.ensures.stays

pub returns-clause-reads : goal.returns-clause-reads
returns-clause-reads g c = λ f k s told draft same.
    let mid = subst (λ (x : Pending). IsDraft f k x s) (sym c.has_file.ensures.asks.pending) draft in
    let before = c.put_file_as.ensures.stays.same k told in
    let held = subst (λ (o : Option Contents). IfSome o (λ d. IsFileHeld (with_all d c.args.draft.now.pending.batch) c.args.id c.in_ok-held.held)) before c.in_ok-held.ensures.found in
    file_reads f k s c.args.id c.args.bytes.now c.args.draft.now.pending c.put_file_as.new.self.pending c.in_ok-held.held _ draft same held c.one_where.ensures
    (subst (λ (b : List ℕ). KeepsFile f k s b (Ok tt) c.put_file_as.new.self.pending) c.in_ok-copy.ensures (c.in_ok-put_file_as.ensures.accepts f k s told mid (same ∙ ap f (sym c.in_ok-copy.ensures))))
