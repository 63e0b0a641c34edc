-- Node by node.
use Rattle.std.proofs.Common.{◌≡◌, ◌∷◌, ◌++◌, List, sym, ◌∙◌, ap, subst, arith}
use Rattle.mtn_base.specs.Paths.{path_text}
use Rattle.mtn_basic_io.specs.Spelling.{LineText, spelling}
use Rattle.mtn_basic_io.proofs.Kept.{front_trans}
use Rattle.mtn_manifest.specs.Manifest.{head_stanza, kept_at}
use Rattle.mtn_manifest.proofs.Prefixes.{at_stop, met_more, written_more, all_met}
use Rattle.mtn_marking.specs.declared.node.NodeMarks.{NodeMarks}
use Rattle.mtn_roster.specs.declared.entry.Entry.{Entry}
use Rattle.mtn_roster.specs.Tree.{path_of}
use Rattle.mtn_roster.specs.Walk.{AreStops}
use Rattle.mtn_roster.proofs.Along.{held, stop_has}
use Rattle.mtn_roster_text.specs.Naming.{ids_by, ids_in}
use Rattle.mtn_roster_text.specs.RosterText.{marked_stanza}
use Rattle.mtn_roster_text.proofs.Walked.{at_node, copied, marked_there, some_copied, stanza_same}
use Rattle.mtn_roster_text.proofs.walk.write_all.Goals as goal

pub unwrap-entry-requires : goal.unwrap-entry-requires
unwrap-entry-requires c =
    let are = subst (AreStops c.args.tree.now) (sym c.deref-stop-items.ensures.value) c.in_ok-stops.ensures in
    let has = stop_has c.args.tree.now c.deref-stop-items.result.now are c.loop-stop.stop-index (record { place = 0; above = 0 }) c.loop-stop-test.true in
    some_copied c.at_place.result has.0 (c.at_place.ensures ∙ has.1)

pub unwrap-node-requires : goal.unwrap-node-requires
unwrap-node-requires c =
    let here = copied c.at_place.result c.unwrap-entry.result _ c.unwrap-entry.ensures c.at_place.ensures in
    let there = marked_there c.args.tree.now c.args.marks.now c.requires _ c.unwrap-entry.result.now here in
    some_copied c.at_place-in-loop-stop.result there.0 (c.at_place-in-loop-stop.ensures ∙ there.1)

pub put_text-requires : goal.put_text-requires
put_text-requires c =
    (at_stop c.args.tree.now c.len-nodes.ensures.sane c.in_ok-stops.stops.items c.deref-stop-items.result.now c.in_ok-stops.ensures c.deref-stop-items.ensures.value c.loop-stop.stop-index (record { place = 0; above = 0 }) c.loop-stop-test.true
    c.at_place.result c.unwrap-entry.result c.unwrap-entry.ensures c.at_place.ensures c.loop-stop.kept.items c.deref.result.now c.deref.ensures.value c.loop-stop.invariant.0).places.met

pub write_next-requires : goal.write_next-requires
write_next-requires c =
    let t = c.args.tree.now in
    let e : Entry = c.unwrap-entry.result.now in
    let m : NodeMarks = c.unwrap-node.result.now in
    let a = at_stop t c.len-nodes.ensures.sane c.in_ok-stops.stops.items c.deref-stop-items.result.now c.in_ok-stops.ensures c.deref-stop-items.ensures.value c.loop-stop.stop-index (record { place = 0; above = 0 }) c.loop-stop-test.true
    c.at_place.result c.unwrap-entry.result c.unwrap-entry.ensures c.at_place.ensures c.loop-stop.kept.items c.deref.result.now c.deref.ensures.value c.loop-stop.invariant.0 in
    (at_node t c.args.marks.now c.len-nodes.ensures.sane c.requires c.len-marked.ensures.rising _ e m (held t c.len-nodes.ensures.sane c.loop-stop.stop-index e a.node)
    (copied c.at_place.result c.unwrap-entry.result _ c.unwrap-entry.ensures c.at_place.ensures) (copied c.at_place-in-loop-stop.result c.unwrap-node.result _ c.unwrap-node.ensures c.at_place-in-loop-stop.ensures)).keys

pub loop-stop-preserved : goal.loop-stop-preserved
loop-stop-preserved c =
    let t = c.args.tree.now in
    let ms = c.args.marks.now in
    let ids = ids_in c.args.table.now ms in
    let i = c.loop-stop.stop-index in
    let e : Entry = c.unwrap-entry.result.now in
    let m : NodeMarks = c.unwrap-node.result.now in
    let a = at_stop t c.len-nodes.ensures.sane c.in_ok-stops.stops.items c.deref-stop-items.result.now c.in_ok-stops.ensures c.deref-stop-items.ensures.value i (record { place = 0; above = 0 }) c.loop-stop-test.true
    c.at_place.result c.unwrap-entry.result c.unwrap-entry.ensures c.at_place.ensures c.loop-stop.kept.items c.deref.result.now c.deref.ensures.value c.loop-stop.invariant.0 in
    let n = at_node t ms c.len-nodes.ensures.sane c.requires c.len-marked.ensures.rising _ e m (held t c.len-nodes.ensures.sane i e a.node) (copied c.at_place.result c.unwrap-entry.result _ c.unwrap-entry.ensures c.at_place.ensures)
    (copied c.at_place-in-loop-stop.result c.unwrap-node.result _ c.unwrap-node.ensures c.at_place-in-loop-stop.ensures) in
    let text : c.put_text.new.text.items ≡ path_text (path_of t e) = c.in_ok-put_text.ensures ∙ a.places.text in
    let last : c.deref-in-loop-stop-2.result.now ≡ path_text (path_of t e) = c.deref-in-loop-stop-2.ensures.value ∙ text in (
      met_more t (λ (e : Entry). kept_at (path_text (path_of t e)) e) i e c.loop-stop.kept.items _ _ a.node
          (c.in_ok-kept_of.ensures ∙ ap (λ p. kept_at p e) (c.deref-in-loop-stop.ensures.value ∙ text)) c.loop-stop.invariant.0 c.in_ok-push.ensures.items,
      written_more t (λ (e : Entry). marked_stanza ids (path_text (path_of t e)) e) i e head_stanza (marked_stanza (ids_by c.args.table.now m.marking) c.deref-in-loop-stop-2.result.now e) c.args.out.now.items c.loop-stop.out.items _ a.node
          (ap (λ p. marked_stanza (ids_by c.args.table.now m.marking) p e) last ∙ stanza_same c.args.table.now ms m.marking (path_text (path_of t e)) e n.marking) c.loop-stop.invariant.1 c.in_ok-write_next.ensures.ok,
      front_trans c.loop-stop.invariant.2 c.in_ok-write_next.ensures.kept,
    )

pub returns-clause-ok : goal.returns-clause-ok
returns-clause-ok c =
    let t = c.args.tree.now in
    c.loop-stop.invariant.1 ∙ ap (λ (l : List (List LineText)). c.args.out.now.items ++ spelling (head_stanza ∷ l))
    (all_met t (λ (e : Entry). marked_stanza (ids_in c.args.table.now c.args.marks.now) (path_text (path_of t e)) e) c.deref-stop-items.result.now (subst (AreStops t) (sym c.deref-stop-items.ensures.value) c.in_ok-stops.ensures) c.loop-stop.stop-index (omega (arith, c.loop-stop-test.false)))
