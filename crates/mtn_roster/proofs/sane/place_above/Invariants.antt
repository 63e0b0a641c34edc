use Rattle.mtn_roster.proofs.sane.place_above.Given as goal

abbrev pub invariant-loop : goal.invariant-loop
invariant-loop l = Unit {0}
