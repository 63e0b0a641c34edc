use Rattle.mtn_check_hands.specs.Reading.{AreOf}
use Rattle.mtn_check_hands.proofs.hands.Hands.make_room.Given as goal

abbrev pub invariant-loop : goal.invariant-loop
invariant-loop l = AreOf l.fn.self l.self
