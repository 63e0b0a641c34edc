use Rattle.mtn_check_log.proofs.again.due_at.Given as goal

-- the keeper as it is lent here
abbrev pub ghosts-due_over : goal.ghosts-due_over
ghosts-due_over g a = record { reference = a.lent.keeper.ghost_name; count = a.lent.count; told = g.K.Keeper.contents a.lent.keeper.now }
