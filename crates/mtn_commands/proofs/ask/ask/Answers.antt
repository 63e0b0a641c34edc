use Rattle.mtn_commands.proofs.ask.ask.Goals as goal

pub returns-in-Parents-clause-drafts : goal.returns-in-Parents-clause-drafts
returns-in-Parents-clause-drafts g c = rw c.in-Parents.is c.ask_parents.ensures.drafts
