-- The widest of the lines of both sides.
use Rattle.std.specs.Prelude.{max}
use Rattle.std.proofs.Common.{◌∙◌, ap}
use Rattle.mtn_conflicts.specs.ConflictText.{left_lines, right_lines}
use Rattle.mtn_conflicts.proofs.Written.{both_wide, keyed_wide}
use Rattle.mtn_conflicts.proofs.lines.both_column.Goals as goal

pub returns-clause-plain : goal.returns-clause-plain
returns-clause-plain c =
    let i = c.args.item.now in
    c.max-2.ensures ∙ ap (λ n. max n 8) c.max.ensures
    ∙ both_wide (left_lines i.key i.left) (right_lines i.key i.right) c.left_width-left.result c.right_width-right.result (c.left_width-left.ensures i.key) (c.right_width-right.ensures i.key)

pub returns-clause-keyed : goal.returns-clause-keyed
returns-clause-keyed c =
    let i = c.args.item.now in
    c.max-2.ensures ∙ ap (λ n. max n 8) c.max.ensures
    ∙ keyed_wide (left_lines i.key i.left) (right_lines i.key i.right) c.left_width-left.result c.right_width-right.result (c.left_width-left.ensures i.key) (c.right_width-right.ensures i.key)
