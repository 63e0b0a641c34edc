-- Marks by the rule are alike.
use Rattle.std.proofs.Common.{◌≡◌, true, refl, sym, ◌∙◌, subst}
use Rattle.mtn_marking.specs.Marking.{Marks, AreAllByRule, HaveBirths}
use Rattle.mtn_roster.specs.Tree.{IsSane}
use Rattle.mtn_check_pieces.specs.Same.{AreLike}
use Rattle.mtn_check_pieces.proofs.ByNode.{by_node, like_marks}
use Rattle.mtn_check_pieces.proofs.verdict.if_marked.Goals as goal

pub returns-then-are_same_marks : goal.returns-then-are_same_marks
returns-then-are_same_marks c = λ b rule births.
    let t = c.args.stored.tree in
    let same : c.args.marks.now ≡ c.args.stored.marks = c.are_same_marks.ensures.equal c.if-are_same_marks.true ∙ c.marks.ensures in
    (record { rule = subst (λ (ms : Marks). AreAllByRule b t ms) same rule; births = subst (λ (ms : Marks). HaveBirths b t ms) same births }, refl)

pub returns-else-are_same_marks : goal.returns-else-are_same_marks
returns-else-are_same_marks c = λ b rule births m.
    let t = c.args.stored.tree in
    let sane : IsSane t = subst IsSane c.roster.ensures.tree c.len-nodes.ensures.sane in
    let made = by_node t sane c.args.marks.now c.requires.fits b rule births in
    let kept = by_node t sane c.args.stored.marks c.roster.ensures.fits b m.rule m.births in
    let same : c.are_same_marks.result ≡ true =
    c.are_same_marks.ensures.alike (subst (AreLike c.args.marks.now) (sym c.marks.ensures) (like_marks t sane b c.args.marks.now c.args.stored.marks made kept)) in
    let other = c.if-are_same_marks.false in
    cc
