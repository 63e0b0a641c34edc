use Rattle.std.proofs.Common.{take}
use Rattle.mtn_put_certs.specs.Reading.{AreKnown}
use Rattle.mtn_put_certs.proofs.logged.first_unlogged.Given as goal

abbrev pub invariant-loop-cert : goal.invariant-loop-cert
invariant-loop-cert l = AreKnown l.graph (take l.cert-index l.certs)
