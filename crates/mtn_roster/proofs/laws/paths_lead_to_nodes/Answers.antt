use Rattle.std.specs.Prelude.{reverse}
use Rattle.mtn_roster.proofs.Forest.{node_there}
use Rattle.mtn_roster.proofs.Ordered.{forest_of}
use Rattle.mtn_roster.proofs.Pathing.{path_leads, path_of-at}
use Rattle.mtn_roster.proofs.laws.paths_lead_to_nodes.Goals as goal

pub returns-clause-leads : goal.returns-clause-leads
returns-clause-leads c = λ t n e s p. path_leads t (forest_of t s) n e p

pub returns-clause-back : goal.returns-clause-back
returns-clause-back c = λ t p e s h. path_of-at t (forest_of t s) p e h

pub returns-clause-there : goal.returns-clause-there
returns-clause-there c = λ t p e s h. node_there t (forest_of t s) (reverse p) e h
