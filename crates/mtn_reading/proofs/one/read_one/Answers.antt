use Rattle.std.proofs.Common.{None, refl, sym, subst}
use Rattle.mtn_imports.specs.Imports.{Reads, kept}
use Rattle.mtn_reading.specs.Heads.{packet_at}
use Rattle.mtn_reading.specs.declared.head.Head.{Head}
use Rattle.mtn_reading.proofs.one.read_one.Goals as goal

pub returns-in-Passed-clause-reads : goal.returns-in-Passed-clause-reads
returns-in-Passed-clause-reads g c = λ k s told draft.
    (s, subst (λ (h : Head). Reads (g.I.Ident.meaning c.args.ident.now) s (packet_at c.args.payloads.now h) None s (kept 0 0 0)) (sym c.in-Passed.is) (refl, refl, refl), draft)
