use Rattle.mtn_check_hands.proofs.below.answer_at.Given as goal

-- the keeper as it is lent here
abbrev pub ghosts-answer_lent : goal.ghosts-answer_lent
ghosts-answer_lent g a = record { reference = a.lent.keeper.ghost_name; count = a.lent.count; told = g.K.Keeper.contents a.lent.keeper.now }
