use Rattle.std.proofs.Common.{rules, ◌∷◌, [], subst}
use Rattle.mtn_marking.specs.Marking.{AreAllByRule, HaveBirths, on_none}
use Rattle.mtn_roster.specs.Tree.{Tree}
use Rattle.mtn_check_pieces.specs.Verdict.{IsEdgeTree, IsRootTree, IsStoredOn}
use Rattle.mtn_check_pieces.proofs.Answering.{none_at, none_made, some_at, taken}
use Rattle.mtn_check_pieces.proofs.verdict.on_root.Goals as goal

pub returns-in_default : goal.returns-in_default
returns-in_default c =
    none_made c.args.job.now (c.args.edge.now ∷ []) [] (λ t m. none_at (IsEdgeTree c.args.job.now.id [] c.args.edge.now) c.in_ok-tree.field-0 c.in_default.is c.in_ok-tree.ensures t m.tree)

pub returns : goal.returns
returns c =
    let job = c.args.job.now in
    let tree = c.in-Some.tree in
    let stored = c.in-Some-2.stored in
    let is : IsRootTree job c.args.edge.now tree = record { parentless = search rules; tree = some_at (IsEdgeTree job.id [] c.args.edge.now) c.in_ok-tree.field-0 tree c.in-Some.is c.in_ok-tree.ensures } in
    let on = some_at (IsStoredOn job.stored tree) c.in_ok-stored.field-0 stored c.in-Some-2.is c.in_ok-stored.ensures in
    taken job (c.args.edge.now ∷ []) [] tree is stored on c.if_marked.result (c.if_marked.ensures (on_none job.at)
    (subst (λ (t : Tree). AreAllByRule (on_none job.at) t c.in_ok-marks.marks) c.roster.ensures.tree c.in_ok-marks.ensures.rule)
    (subst (λ (t : Tree). HaveBirths (on_none job.at) t c.in_ok-marks.marks) c.roster.ensures.tree c.in_ok-marks.ensures.births))
