-- At the place of the node, if it has one.
use Rattle.std.proofs.Common.{arith}
use Rattle.mtn_roster_deltas.proofs.Places.{marked_names, notes_here, notes_none, place_is, place_none}
use Rattle.mtn_roster_deltas.proofs.noting.note_one.Goals as goal

pub returns-in-None : goal.returns-in-None
returns-in-None c = λ seen noted one.
    notes_none (marked_names c.args.marks.now) c.len-rising.ensures.rising seen c.args.numbers.now c.args.entry.now (place_none c.args.marks.now c.args.entry.now.node c.in-None.ensures.node) noted

pub returns-in-Some : goal.returns-in-Some
returns-in-Some c = λ seen noted one.
    notes_here (marked_names c.args.marks.now) c.len-rising.ensures.rising seen c.args.numbers.now c.in-Some.place c.args.entry.now (omega (arith, c.in-Some.ensures.within, c.requires))
    (place_is c.args.marks.now c.in-Some.place c.args.entry.now.node c.in-Some.ensures.within c.in-Some.ensures.node) noted one
