use Rattle.mtn_check_hands.proofs.hands.Hands.meet_all.Goals as goal

pub returns-in-Two : goal.returns-in-Two
returns-in-Two c = λ p hand has. c.meet-in-Two.ensures p hand (c.meet-in-Two-2.ensures p hand has)
