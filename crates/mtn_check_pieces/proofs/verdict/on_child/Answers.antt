use Rattle.std.proofs.Common.{rules, ◌∷◌, [], subst}
use Rattle.mtn_marking.specs.Marking.{AreAllByRule, HaveBirths, on_one}
use Rattle.mtn_roster.specs.Tree.{Tree}
use Rattle.mtn_check_pieces.specs.Verdict.{IsChildTree, IsEdgeTree, IsOneOf, IsStoredOn}
use Rattle.mtn_check_pieces.proofs.Answering.{none_at, none_made, some_at, taken}
use Rattle.mtn_check_pieces.proofs.verdict.on_child.Goals as goal

pub returns-in_default : goal.returns-in_default
returns-in_default c =
    let one = subst (λ (p : Tree). IsOneOf (IsEdgeTree c.args.job.now.id p c.args.edge.now) c.in_ok-tree.field-0) c.roster.ensures.tree c.in_ok-tree.ensures in
    none_made c.args.job.now (c.args.edge.now ∷ []) (c.args.parent.now ∷ []) (λ t m. none_at (IsEdgeTree c.args.job.now.id c.args.parent.now.tree c.args.edge.now) c.in_ok-tree.field-0 c.in_default.is one t m.tree)

pub returns : goal.returns
returns c =
    let job = c.args.job.now in
    let parent = c.args.parent.now in
    let tree = c.in-Some.tree in
    let stored = c.in-Some-2.stored in
    let one = subst (λ (p : Tree). IsOneOf (IsEdgeTree job.id p c.args.edge.now) c.in_ok-tree.field-0) c.roster.ensures.tree c.in_ok-tree.ensures in
    let is : IsChildTree job parent.tree c.args.edge.now tree = record { child = search rules; tree = some_at (IsEdgeTree job.id parent.tree c.args.edge.now) c.in_ok-tree.field-0 tree c.in-Some.is one } in
    let on = some_at (IsStoredOn job.stored tree) c.in_ok-stored.field-0 stored c.in-Some-2.is c.in_ok-stored.ensures in
    taken job (c.args.edge.now ∷ []) (parent ∷ []) tree is stored on c.if_marked.result (c.if_marked.ensures (on_one job.at parent)
    (subst (λ (t : Tree). AreAllByRule (on_one job.at parent) t c.in_ok-marks.marks) c.roster-2.ensures.tree c.in_ok-marks.ensures.rule)
    (subst (λ (t : Tree). HaveBirths (on_one job.at parent) t c.in_ok-marks.marks) c.roster-2.ensures.tree c.in_ok-marks.ensures.births))
