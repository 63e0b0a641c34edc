-- Node by node.
use Rattle.std.proofs.Common.{◌≡◌, ◌∷◌, ◌++◌, List, refl, ◌∙◌, ap, arith}
use Rattle.mtn_base.specs.Paths.{path_text}
use Rattle.mtn_basic_io.specs.Spelling.{LineText, spelling}
use Rattle.mtn_basic_io.proofs.Kept.{front_trans}
use Rattle.mtn_roster.specs.declared.entry.Entry.{Entry}
use Rattle.mtn_roster.specs.Tree.{path_of}
use Rattle.mtn_manifest.specs.Manifest.{head_stanza, node_stanza, kept_at}
use Rattle.mtn_roster.proofs.Along.{stop_has}
use Rattle.mtn_manifest.proofs.Prefixes.{at_stop, met_more, written_more, all_met, copied_some}
use Rattle.mtn_manifest.proofs.write_all.Goals as goal

pub unwrap-entry-requires : goal.unwrap-entry-requires
unwrap-entry-requires c =
    let has = stop_has c.args.roster.now c.args.stops.now c.requires c.loop-stop.stop-index (record { place = 0; above = 0 }) c.loop-stop-test.true in
    copied_some c.at_place.result has.0 (c.at_place.ensures ∙ has.1)

pub put_text-requires : goal.put_text-requires
put_text-requires c =
    (at_stop c.args.roster.now c.len-nodes.ensures.sane c.args.stops.now c.args.stops.now c.requires refl c.loop-stop.stop-index (record { place = 0; above = 0 }) c.loop-stop-test.true
    c.at_place.result c.unwrap-entry.result c.unwrap-entry.ensures c.at_place.ensures c.loop-stop.kept.items c.deref.result.now c.deref.ensures.value c.loop-stop.invariant.0).places.met

pub loop-stop-preserved : goal.loop-stop-preserved
loop-stop-preserved c =
    let t = c.args.roster.now in
    let i = c.loop-stop.stop-index in
    let e : Entry = c.unwrap-entry.result.now in
    let a = at_stop t c.len-nodes.ensures.sane c.args.stops.now c.args.stops.now c.requires refl i (record { place = 0; above = 0 }) c.loop-stop-test.true
    c.at_place.result c.unwrap-entry.result c.unwrap-entry.ensures c.at_place.ensures c.loop-stop.kept.items c.deref.result.now c.deref.ensures.value c.loop-stop.invariant.0 in
    let text : c.put_text.new.text.items ≡ path_text (path_of t e) = c.in_ok-put_text.ensures ∙ a.places.text in
    let last : c.deref-in-loop-stop-2.result.now ≡ path_text (path_of t e) = c.deref-in-loop-stop-2.ensures.value ∙ text in (
      met_more t (λ (e : Entry). kept_at (path_text (path_of t e)) e) i e c.loop-stop.kept.items _ _ a.node
          (c.in_ok-kept_of.ensures ∙ ap (λ p. kept_at p e) (c.deref-in-loop-stop.ensures.value ∙ text)) c.loop-stop.invariant.0 c.in_ok-push.ensures.items,
      written_more t (λ (e : Entry). node_stanza (path_text (path_of t e)) e) i e head_stanza (node_stanza c.deref-in-loop-stop-2.result.now e) c.args.out.now.items c.loop-stop.out.items _ a.node
          (ap (λ p. node_stanza p e) last) c.loop-stop.invariant.1 c.in_ok-write_next.ensures.ok,
      front_trans c.loop-stop.invariant.2 c.in_ok-write_next.ensures.kept,
    )

pub returns-clause-ok : goal.returns-clause-ok
returns-clause-ok c =
    let t = c.args.roster.now in
    c.loop-stop.invariant.1 ∙ ap (λ (l : List (List LineText)). c.args.out.now.items ++ spelling (head_stanza ∷ l))
    (all_met t (λ (e : Entry). node_stanza (path_text (path_of t e)) e) c.args.stops.now c.requires c.loop-stop.stop-index (omega (arith, c.loop-stop-test.false)))
