use Rattle.mtn_check_hands.proofs.hands.Hands.make_room.Goals as goal

pub loop-preserved : goal.loop-preserved
loop-preserved c = λ p hand has. c.loop.invariant p hand (c.drop_lowest.ensures p hand has)
