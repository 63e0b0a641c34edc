use Rattle.std.proofs.Common.{◌≡◌, ◌++◌, take, map}
use Rattle.mtn_changes.specs.Stanzas.{stanza_of}
use Rattle.mtn_changes.proofs.writing.push_changes.Given as goal

abbrev pub invariant-loop-change : goal.invariant-loop-change
invariant-loop-change l = l.stanzas.items ≡ l.fn.stanzas.items ++ map stanza_of (map (λ b. b.now) (take l.change-index l.changes))
