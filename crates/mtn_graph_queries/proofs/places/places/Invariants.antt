use Rattle.std.specs.Prelude.{List, All}
use Rattle.std.specs.List.{AllZip}
use Rattle.std.proofs.Common.{◌<◌, length, take}
use Rattle.mtn_history_laws.specs.History.{IsPlaceOf, Revision}
use Rattle.mtn_replay.specs.Graphs.{IsGraphOf}
use Rattle.mtn_graph_queries.proofs.places.places.Given as goal

abbrev pub invariant-loop-id : goal.invariant-loop-id
invariant-loop-id l = record {
  within : All (λ at. at < length l.graph) l.at.items;
  found : (h : List Revision) → IsGraphOf h l.graph → AllZip (IsPlaceOf h) (take l.id-index l.ids) l.at.items;
}
