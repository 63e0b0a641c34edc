use Rattle.std.proofs.Common.{[]}
use Rattle.mtn_graph_queries.proofs.Placing.{stopped}
use Rattle.mtn_graph_queries.proofs.Telling.{place_from, found_none}
use Rattle.mtn_graph_queries.proofs.places.place.Goals as goal

pub returns-in-Some-clause-found : goal.returns-in-Some-clause-found
returns-in-Some-clause-found c h tells = place_from h c.args.graph.now tells c.args.id c.in-Some.at c.in-Some.ensures.found

pub returns-in-None-clause-unknown : goal.returns-in-None-clause-unknown
returns-in-None-clause-unknown c h tells = stopped h c.args.id [] (found_none h c.args.graph.now tells c.args.id (λ a at. absurd (let t = c.in-None.ensures.all a at in cc)))
