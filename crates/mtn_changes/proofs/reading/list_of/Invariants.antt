use Rattle.std.proofs.Common.{◌≡◌, take, map}
use Rattle.mtn_changes.specs.Stanzas.{stanza_of}
use Rattle.mtn_changes.specs.Lists.{IsPart}
use Rattle.mtn_changes.specs.ChangesText.{AreChanges}
use Rattle.mtn_changes.proofs.reading.list_of.Given as goal

abbrev pub invariant-loop-at : goal.invariant-loop-at
invariant-loop-at l = record { part : IsPart l.part.changes l.part.changes l.part.targets l.part.last; lawful : AreChanges l.part.changes; read : take l.at l.stanzas ≡ map stanza_of l.part.changes }
