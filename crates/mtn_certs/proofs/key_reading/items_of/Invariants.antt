use Rattle.mtn_certs.proofs.KeyTexting.{SoFar}
use Rattle.mtn_certs.specs.ReadingTables.{IsPart}
use Rattle.mtn_certs.proofs.key_reading.items_of.Given as goal

abbrev pub invariant-loop-at : goal.invariant-loop-at
invariant-loop-at l = record { part : IsPart l.part.items l.part.items l.part.ids l.part.names; far : SoFar l.stanzas l.at l.part.items }
