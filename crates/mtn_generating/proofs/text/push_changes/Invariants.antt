use Rattle.std.proofs.Common.{◌≡◌, ◌++◌, map, take}
use Rattle.mtn_changes.specs.Stanzas.{stanza_of as spelled}
use Rattle.mtn_generating.proofs.text.push_changes.Given as goal

abbrev pub invariant-loop-change : goal.invariant-loop-change
invariant-loop-change l = l.stanzas.items ≡ l.fn.stanzas.items ++ map spelled (take l.change-index l.changes)
