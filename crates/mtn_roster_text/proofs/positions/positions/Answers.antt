-- One more node.
use Rattle.std.proofs.Common.{◌++◌, ◌∙◌, ap}
use Rattle.mtn_marking.specs.declared.node.NodeMarks.{NodeMarks}
use Rattle.mtn_roster_text.specs.Positions.{positions_of}
use Rattle.mtn_roster_text.proofs.Lines.{flat_at}
use Rattle.mtn_roster_text.proofs.Walked.{copied}
use Rattle.mtn_roster_text.proofs.positions.positions.Goals as goal

pub loop-place-preserved : goal.loop-place-preserved
loop-place-preserved c =
    let at = copied c.at_place.result c.unwrap-node.result _ c.unwrap-node.ensures c.at_place.ensures in
    c.in_ok-put_node.ensures ∙ ap (λ l. l ++ positions_of c.unwrap-node.result.now.marking) c.loop-place.invariant
    ∙ flat_at (λ (n : NodeMarks). positions_of n.marking) c.args.marks.now c.loop-place.place c.unwrap-node.result.now at
