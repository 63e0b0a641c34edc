-- The body, and then the attributes.
use Rattle.mtn_manifest.proofs.Columns.{printed}
use Rattle.mtn_manifest.proofs.printing.write_node.Goals as goal

pub returns-clause-ok : goal.returns-clause-ok
returns-clause-ok c =
    printed c.column_of-column.result c.args.path.now c.args.entry.now c.as_slice.result.now c.args.out.now.items c.write_body.new.out.items c.write_attrs.new.out.items (c.column_of-column.ensures.column c.args.path.now)
    c.as_slice.ensures c.in_ok-write_body.ensures.ok c.in_ok-write_attrs.ensures.ok
