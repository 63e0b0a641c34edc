use Rattle.mtn_changes.proofs.opening.version_at.Goals as goal

pub returns-in-None-clause-err : goal.returns-in-None-clause-err
returns-in-None-clause-err c = c.no_head.ensures 1
