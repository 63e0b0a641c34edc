-- One change before those that are linked.
use Rattle.std.specs.BTreeMap.{is_at}
use Rattle.std.specs.Map.{lookup}
use Rattle.std.proofs.Common.{◌-◌, ap, ◌∙◌, arith, rules}
use Rattle.mtn_base.specs.Names.{name_cmp}
use Rattle.mtn_apply.specs.Index.{old_of, changes_of}
use Rattle.mtn_apply.specs.Edits.{touches}
use Rattle.mtn_apply.proofs.Links.{no_links, one_link}
use Rattle.mtn_apply.proofs.edits.edits_of.Goals as goal

pub loop-left-init : goal.loop-left-init
loop-left-init c =
    no_links (old_of c.args.edge.now) (changes_of c.args.edge.now) c.args.new c.in_ok-first.first c.in_ok-next.next.items
    (λ n. ap (lookup (is_at (name_cmp n))) c.in_ok-first.ensures) (search rules)

pub loop-left-preserved : goal.loop-left-preserved
loop-left-preserved c =
    one_link (old_of c.args.edge.now) (changes_of c.args.edge.now) c.args.new c.loop-left.left (c.loop-left.left - 1) c.loop-left.first c.note_edit.new.first c.loop-left.next.items c.note_edit.new.next.items
    c.index-edge-left.result c.in_ok-name.name c.loop-left.invariant (omega arith) c.index-edge-left.is (λ n. ap (touches (old_of c.args.edge.now) (changes_of c.args.edge.now) c.args.new n) c.index-edge-left.is ∙ c.in_ok-name.ensures n)
    c.in_ok-note_edit.ensures.first c.in_ok-note_edit.ensures.long c.in_ok-note_edit.ensures.here c.in_ok-note_edit.ensures.others
