-- What stands between ids and the positions of the graph.
use Rattle.std.specs.Prelude.{◌≡◌, ℕ, List, [], Contains, ⊤}
use Rattle.std.specs.List.{filter_map}
use Rattle.mtn_base.specs.declared.id.Id.{Id}
use Rattle.mtn_ancestry.specs.declared.pos.LogEntry.{LogEntry}
use Rattle.mtn_ancestry.specs.Log.{id_at}
use Rattle.mtn_graph_queries.specs.declared.sets.Wanted.{Wanted}
use Rattle.mtn_graph_queries.specs.declared.sets.Wanted.TheVariants.{Any, Roots, Children}

-- the ids of the revisions at these positions
abbrev pub ids_at : List LogEntry → List ℕ → List Id
ids_at log at = filter_map (id_at log) at

-- a revision with these parents is wanted
abbrev pub IsWanted : Wanted → List ℕ → Type 0
IsWanted Any parents = ⊤
IsWanted Roots parents = parents ≡ []
IsWanted (Children of) parents = Contains parents of
