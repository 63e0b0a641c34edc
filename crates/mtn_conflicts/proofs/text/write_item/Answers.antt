-- The lines of a stanza.
use Rattle.std.specs.Prelude.{codes}
use Rattle.std.proofs.Common.{◌++◌, ◌∙◌, ap, ℕ, List}
use Rattle.std.proofs.lemmas.Result.{on_ok_weaker}
use Rattle.mtn_basic_io.specs.Spelling.{line_text}
use Rattle.mtn_conflicts.specs.ConflictText.{conflict_line, kind_name, more_lines, node_line}
use Rattle.mtn_conflicts.proofs.Written.{item_is}
use Rattle.mtn_conflicts.proofs.text.write_item.Goals as goal

pub returns : goal.returns
returns c =
    let i = c.args.item.now in
    let column = c.column_of-column.result in
    on_ok_weaker _ (λ more. item_is column (conflict_line (kind_name c.args.kind)) (node_line (codes "node") i.node) (more_lines c.args.kind i) c.args.out.now.items c.push.new.self.items c.write_text_line.new.out.items c.write_node.new.out.items c.write_more.new.out.items
    c.column_of-column.ensures c.in_ok-push.ensures.items (c.in_ok-write_text_line.ensures.ok ∙ ap (λ (t : List ℕ). c.push.new.self.items ++ line_text column (conflict_line t)) c.name.ensures) c.in_ok-write_node.ensures more) c.write_more.ensures
