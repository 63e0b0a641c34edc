-- Positions and the ids of their revisions.
use Rattle.std.specs.Prelude.{ℕ, ◌==◌, List, [], Option, map, find, filter_map, option_map, unwrap_or}
use Rattle.std.specs.List.{zip}
use Rattle.mtn_base.specs.declared.id.Id.{Id}
use Rattle.mtn_history_laws.specs.Scalars.{Scalar}
use Rattle.mtn_base.specs.Ids.{in_id_order}
use Rattle.mtn_marking.specs.Marking.{Marks, marks_in, marks_of}
use Rattle.mtn_marking.specs.declared.node.Marking.{Marking}
use Rattle.mtn_roster_text.specs.declared.table.Named.{Named}

-- each position with the id beside it
abbrev pub table_of : List ℕ → List Id → List Named
table_of places ids = map (λ (p : ℕ × Id). record { at = p.0; id = p.1 }) (zip places ids)

-- the id of the revision at a position; none where the table has no such position
abbrev pub id_at : List Named → ℕ → Option Id
id_at table at = option_map (λ n. n.id) (find (λ n. n.at == at) table)

-- the ids of positions, ascending, each once
abbrev pub ids_at : List Named → List ℕ → List Id
ids_at table marks = in_id_order (filter_map (id_at table) marks)

-- the ids of the marks of a scalar, by the marking of its node
abbrev pub ids_by : List Named → Marking → Scalar → List Id
ids_by table m s = ids_at table (unwrap_or (marks_of s m) [])

-- the ids of the marks of a scalar, by the markings of all nodes
abbrev pub ids_in : List Named → Marks → Scalar → List Id
ids_in table marks s = ids_at table (unwrap_or (marks_in marks s) [])
