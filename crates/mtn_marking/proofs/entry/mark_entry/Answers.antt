-- The parts of a node are marked by what the parents have of it.
use Rattle.std.proofs.Common.{List, sym, subst}
use Rattle.std.specs.List.{AllZip}
use Rattle.mtn_history_laws.specs.Scalars.Scalar.{SlotOf}
use Rattle.mtn_history_laws.specs.Scalars.Value.{SlotValue}
use Rattle.mtn_roster.specs.declared.entry.Attr.{Attr}
use Rattle.mtn_marking.specs.declared.node.AttrMarks.{AttrMarks}
use Rattle.mtn_marking.specs.Marking.{side_of}
use Rattle.mtn_marking.specs.Parts.{seen, basis_of, IsMarkedAttr}
use Rattle.mtn_marking.proofs.Zips.{node_marked}
use Rattle.mtn_marking.proofs.entry.mark_entry.Goals as goal

pub returns : goal.returns
returns c =
    let n = c.args.entry.now.name in
    let l = seen c.known_from-left.result in
    let r = seen c.known_from-right.result in
    node_marked (basis_of c.args.against.now) c.args.entry.now _ l r c.known_from-left.ensures.known c.known_from-right.ensures.known c.in_ok-copy.ensures c.birth_from.ensures
    (c.in_ok-slot.ensures (SlotValue c.args.entry.now.slot) (side_of (SlotOf n) l) (side_of (SlotOf n) r) (c.have_slot.ensures n) (c.have_slot-2.ensures n))
    (c.in_ok-content.ensures n)
    (subst (λ (ms : List AttrMarks). AllZip (IsMarkedAttr c.args.against.now.at c.args.against.now.only_left.now c.args.against.now.only_right.now l r) c.args.entry.now.attrs ms) (sym c.from_vec.ensures)
    (subst (λ (xs : List Attr). AllZip (IsMarkedAttr c.args.against.now.at c.args.against.now.only_left.now c.args.against.now.only_right.now l r) xs c.in_ok-attrs.attrs.items) c.as_slice.ensures c.in_ok-attrs.ensures))
