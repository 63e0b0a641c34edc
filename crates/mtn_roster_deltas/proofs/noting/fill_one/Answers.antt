-- By whether there is a number at the place.
use Rattle.mtn_roster_deltas.proofs.Places.{fills_kept, fills_new}
use Rattle.mtn_roster_deltas.proofs.noting.fill_one.Goals as goal

pub returns-then-numbers-place-ne0-clause-filled : goal.returns-then-numbers-place-ne0-clause-filled
returns-then-numbers-place-ne0-clause-filled c = λ es first names met n above up at new h. fills_kept es first names met n new c.args.numbers.now c.args.next c.args.place at c.if-numbers-place-ne0.true h

pub returns-clause-filled : goal.returns-clause-filled
returns-clause-filled c = λ es first names met n above up at new h.
    fills_new es first names met n new up above c.args.numbers.now c.args.next c.args.place c.requires.within at c.if-numbers-place-ne0.false h
