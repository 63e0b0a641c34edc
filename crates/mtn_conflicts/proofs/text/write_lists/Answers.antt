-- List by list.
use Rattle.std.proofs.lemmas.Result.{on_ok_weaker}
use Rattle.mtn_conflicts.specs.declared.kind.Kind.TheVariants.{InvalidName, DirectoryLoop, OrphanedNode, MultipleName, DuplicateName, Attribute, Content, DroppedModified}
use Rattle.mtn_conflicts.proofs.Written.{nine_lists, of_items}
use Rattle.mtn_conflicts.proofs.text.write_lists.Goals as goal

pub returns : goal.returns
returns c =
    let d = c.args.conflicts.now in
    on_ok_weaker _ (λ last. nine_lists d c.args.out.now.items c.write_root.new.out.items c.write_items.new.out.items c.write_items-2.new.out.items c.write_items-3.new.out.items c.write_items-4.new.out.items c.write_items-5.new.out.items c.write_items-6.new.out.items c.write_items-7.new.out.items c.write_items-8.new.out.items
    c.in_ok-write_root.ensures
    (of_items InvalidName d.invalid_name c.as_slice.result.now c.write_root.new.out.items c.write_items.new.out.items c.as_slice.ensures c.in_ok-write_items.ensures)
    (of_items DirectoryLoop d.directory_loop c.as_slice-2.result.now c.write_items.new.out.items c.write_items-2.new.out.items c.as_slice-2.ensures c.in_ok-write_items-2.ensures)
    (of_items OrphanedNode d.orphaned_node c.as_slice-3.result.now c.write_items-2.new.out.items c.write_items-3.new.out.items c.as_slice-3.ensures c.in_ok-write_items-3.ensures)
    (of_items MultipleName d.multiple_name c.as_slice-4.result.now c.write_items-3.new.out.items c.write_items-4.new.out.items c.as_slice-4.ensures c.in_ok-write_items-4.ensures)
    (of_items DuplicateName d.duplicate_name c.as_slice-5.result.now c.write_items-4.new.out.items c.write_items-5.new.out.items c.as_slice-5.ensures c.in_ok-write_items-5.ensures)
    (of_items Attribute d.attribute c.as_slice-6.result.now c.write_items-5.new.out.items c.write_items-6.new.out.items c.as_slice-6.ensures c.in_ok-write_items-6.ensures)
    (of_items Content d.content c.as_slice-7.result.now c.write_items-6.new.out.items c.write_items-7.new.out.items c.as_slice-7.ensures c.in_ok-write_items-7.ensures)
    (of_items DroppedModified d.dropped_modified c.as_slice-8.result.now c.write_items-7.new.out.items c.write_items-8.new.out.items c.as_slice-8.ensures last)) c.write_items-8.ensures
