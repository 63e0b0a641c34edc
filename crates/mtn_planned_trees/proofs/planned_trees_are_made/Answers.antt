use Rattle.mtn_planned_trees.proofs.Planned.{planned}
use Rattle.mtn_planned_trees.proofs.planned_trees_are_made.Goals as goal

pub returns : goal.returns
returns _ f files log h a b x m rs before d r is sides at checked lawful are none ux limits stanzas told fresh room = planned f files log h is a b sides m at rs before checked lawful d are none x ux limits fresh stanzas r told room
