-- The body, the marks, and then the attributes.
use Rattle.std.proofs.Common.{◌++◌, List, ap, ◌∙◌}
use Rattle.std.specs.List.{flat_map}
use Rattle.std.proofs.lemmas.Result.{on_ok_weaker}
use Rattle.mtn_basic_io.specs.Spelling.{line_text}
use Rattle.mtn_manifest.specs.Manifest.{body_lines}
use Rattle.mtn_roster.specs.declared.entry.Attr.{Attr}
use Rattle.mtn_roster_text.specs.Naming.{ids_by}
use Rattle.mtn_roster_text.specs.RosterText.{attr_lines, node_marks}
use Rattle.mtn_roster_text.proofs.Lines.{stanza_is}
use Rattle.mtn_roster_text.proofs.printing.write_node.Goals as goal

pub returns-clause-ok : goal.returns-clause-ok
returns-clause-ok c =
    let column = c.column_of-column.result in
    let ids = ids_by c.args.table.now c.args.marking.now in
    let e = c.args.entry.now in
    let before = c.write_marks.new.out.items in
    on_ok_weaker _ (λ more. stanza_is column (body_lines c.args.path.now e.body) (node_marks ids e.name e.body) (flat_map (attr_lines ids e.name) e.attrs) c.args.out.now.items c.write_body.new.out.items before c.write_attrs.new.out.items
    (c.column_of-column.ensures.column ids c.args.path.now) c.in_ok-write_body.ensures.ok c.in_ok-write_marks.ensures.ok
    (more e.name ∙ ap (λ (attrs : List Attr). before ++ flat_map (line_text column) (flat_map (attr_lines ids e.name) attrs)) c.as_slice-attrs.ensures)) c.write_attrs.ensures.ok
