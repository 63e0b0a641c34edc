use Rattle.std.proofs.Common.{◌≡◌, take, map}
use Rattle.mtn_answers.specs.Views.{mark_stanza}
use Rattle.mtn_roster_queries.proofs.content.marks_text.Given as goal

abbrev pub invariant-loop-id : goal.invariant-loop-id
invariant-loop-id l = l.stanzas.items ≡ map mark_stanza (take l.id-index l.ids)
