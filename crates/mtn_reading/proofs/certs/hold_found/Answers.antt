use Rattle.std.proofs.lemmas.Result.{err_from_is_err_and}
use Rattle.mtn_reading.proofs.CertReading.{cert_reads, key_errs, known, lawful_parts}
use Rattle.mtn_reading.proofs.certs.hold_found.Goals as goal

pub returns-in_err-key-clause-reads : goal.returns-in_err-key-clause-reads
returns-in_err-key-clause-reads g c = λ f k s told draft looked fine.
    let p = c.args.cert.now in
    let q = err_from_is_err_and c.from_residual.result c.from_residual.ensures.1 in
    rw (q.1, q.2) (key_errs s p.revision p.value p.signature f k p.name p.key c.args.found looked fine c.in_err-key.field-0.0 c.args.draft.now.pending (c.in_err-key.ensures.found s.keys looked))

pub hold-requires : goal.hold-requires
hold-requires g c = let p = c.args.cert.now in record { lawful = lawful_parts p.revision c.in_ok-key.key p.name p.value p.signature c.requires.name c.requires.lengths }

pub returns-in_err-new-clause-reads : goal.returns-in_err-new-clause-reads
returns-in_err-new-clause-reads g c = λ f k s told draft looked fine.
    let q = err_from_is_err_and c.from_residual-in_err-new.result c.from_residual-in_err-new.ensures.1 in
    rw (q.1, q.2) c.in_err-new.ensures.sound

pub returns-clause-reads : goal.returns-clause-reads
returns-clause-reads g c = λ f k s told draft looked fine.
    let p = c.args.cert.now in
    cert_reads s p.revision p.value p.signature f k p.name p.key c.args.found looked fine c.in_ok-key.key (c.in_ok-key.ensures.found s.keys looked) c.in_ok-new.new c.one_where.result c.hold.new.draft.pending c.one_where.ensures
    (c.in_ok-new.ensures.holds f k s told draft (known s p.revision p.value p.signature fine))
