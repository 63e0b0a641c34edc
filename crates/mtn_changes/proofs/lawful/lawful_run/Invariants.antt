use Rattle.std.proofs.Common.{◌≡◌, take, map}
use Rattle.mtn_changes.specs.Stanzas.{stanza_of}
use Rattle.mtn_changes.specs.Lists.{last_rank}
use Rattle.mtn_changes.specs.Runs.{AreRising}
use Rattle.mtn_changes.proofs.lawful.lawful_run.Given as goal

abbrev pub invariant-loop-stanza : goal.invariant-loop-stanza
invariant-loop-stanza l = record { rising : AreRising l.changes; last : l.last ≡ last_rank l.changes; read : take l.stanza-index l.stanzas ≡ map stanza_of l.changes }
