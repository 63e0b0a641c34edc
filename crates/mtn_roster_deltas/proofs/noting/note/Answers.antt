-- One entry more each time.
use Rattle.mtn_roster_deltas.proofs.Places.{marked_names, notes_on}
use Rattle.mtn_roster_deltas.proofs.noting.note.Goals as goal

pub loop-entry-preserved : goal.loop-entry-preserved
loop-entry-preserved c =
    notes_on (marked_names c.args.marks.now) c.args.entries.now c.args.numbers.now c.loop-entry.numbers c.note_one-guess.new.numbers c.loop-entry.entry-index c.entry-item.result c.loop-entry-test.true c.entry-item.is c.loop-entry.invariant c.note_one-guess.ensures
