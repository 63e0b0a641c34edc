use Rattle.std.proofs.Common.{◌∷◌, [], subst}
use Rattle.mtn_marking.specs.Marking.{AreAllByRule, HaveBirths, on_two}
use Rattle.mtn_roster.specs.Tree.{Tree}
use Rattle.mtn_check_pieces.specs.Verdict.{IsMergedTree, IsOneOf, IsStoredOn}
use Rattle.mtn_check_pieces.proofs.Answering.{none_at, none_made, none_on, one_merged, some_at, taken}
use Rattle.mtn_check_pieces.proofs.verdict.on_merge.Goals as goal

pub returns-in_default : goal.returns-in_default
returns-in_default c =
    let job = c.args.job.now in
    let one = subst (λ (p : Tree). IsOneOf (IsMergedTree job c.args.left.now.tree p c.args.first.now c.args.second.now) c.in_ok-merged.merged) c.roster-2.ensures.tree
    (subst (λ (p : Tree). IsOneOf (IsMergedTree job p c.roster-2.result.now c.args.first.now c.args.second.now) c.in_ok-merged.merged) c.roster.ensures.tree c.in_ok-merged.ensures) in
    none_made job (c.args.first.now ∷ c.args.second.now ∷ []) (c.args.left.now ∷ c.args.right.now ∷ [])
    (λ t m. none_at (IsMergedTree job c.args.left.now.tree c.args.right.now.tree c.args.first.now c.args.second.now) c.in_ok-merged.merged c.in_default.is one t m)

pub returns-in_default-2 : goal.returns-in_default-2
returns-in_default-2 c =
    let job = c.args.job.now in
    let one = subst (λ (p : Tree). IsOneOf (IsMergedTree job c.args.left.now.tree p c.args.first.now c.args.second.now) c.in_ok-merged.merged) c.roster-2.ensures.tree
    (subst (λ (p : Tree). IsOneOf (IsMergedTree job p c.roster-2.result.now c.args.first.now c.args.second.now) c.in_ok-merged.merged) c.roster.ensures.tree c.in_ok-merged.ensures) in
    let made = some_at (IsMergedTree job c.args.left.now.tree c.args.right.now.tree c.args.first.now c.args.second.now) c.in_ok-merged.merged c.in-Some.tree c.in-Some.is one in
    none_on job (c.args.first.now ∷ c.args.second.now ∷ []) (c.args.left.now ∷ c.args.right.now ∷ []) c.in-Some.tree
    (λ u m. one_merged job c.args.left.now.tree c.args.right.now.tree c.args.first.now c.args.second.now u c.in-Some.tree m made) c.in_ok-stored.field-0 c.in_default-2.is c.in_ok-stored.ensures

pub returns : goal.returns
returns c =
    let job = c.args.job.now in
    let left = c.args.left.now in
    let right = c.args.right.now in
    let stored = c.in-Some-2.stored in
    let one = subst (λ (p : Tree). IsOneOf (IsMergedTree job left.tree p c.args.first.now c.args.second.now) c.in_ok-merged.merged) c.roster-2.ensures.tree
    (subst (λ (p : Tree). IsOneOf (IsMergedTree job p c.roster-2.result.now c.args.first.now c.args.second.now) c.in_ok-merged.merged) c.roster.ensures.tree c.in_ok-merged.ensures) in
    let made = some_at (IsMergedTree job left.tree right.tree c.args.first.now c.args.second.now) c.in_ok-merged.merged c.in-Some.tree c.in-Some.is one in
    let on = some_at (IsStoredOn job.stored c.in-Some.tree) c.in_ok-stored.field-0 stored c.in-Some-2.is c.in_ok-stored.ensures in
    taken job (c.args.first.now ∷ c.args.second.now ∷ []) (left ∷ right ∷ []) c.in-Some.tree made stored on c.if_marked.result
    (c.if_marked.ensures (on_two job.at left right job.only_left.positions job.only_right.positions)
    (subst (λ (t : Tree). AreAllByRule (on_two job.at left right job.only_left.positions job.only_right.positions) t c.in_ok-marks.marks) c.roster-3.ensures.tree c.in_ok-marks.ensures.rule)
    (subst (λ (t : Tree). HaveBirths (on_two job.at left right job.only_left.positions job.only_right.positions) t c.in_ok-marks.marks) c.roster-3.ensures.tree c.in_ok-marks.ensures.births))
