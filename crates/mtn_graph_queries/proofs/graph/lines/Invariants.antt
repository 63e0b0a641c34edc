use Rattle.std.specs.Prelude.{List, All, map}
use Rattle.std.proofs.Common.{◌≡◌, take}
use Rattle.mtn_history_laws.specs.History.{Revision}
use Rattle.mtn_replay.specs.Graphs.{IsGraphOf}
use Rattle.mtn_answers.specs.Lines.{HasParents}
use Rattle.mtn_answers.specs.declared.query.Line.{Line}
use Rattle.mtn_graph_queries.proofs.graph.lines.Given as goal

abbrev pub invariant-loop-id : goal.invariant-loop-id
invariant-loop-id l = record {
  ids : map (λ (line : Line). line.id) l.lines ≡ take l.id-index l.id-items;
  parents : (h : List Revision) → IsGraphOf h l.graph → All (HasParents h) l.lines;
}
