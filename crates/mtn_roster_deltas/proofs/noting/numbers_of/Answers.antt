-- Stop by stop.
use Rattle.std.proofs.Common.{◌∙◌, ◌+◌, length, take, List, ℕ, sym, ap, subst, arith}
use Rattle.std.specs.Prelude.{option_map}
use Rattle.mtn_base.specs.declared.name.NodeName.{NodeName}
use Rattle.mtn_roster.specs.declared.entry.Entry.{Entry}
use Rattle.mtn_roster.specs.Tree.{IsSane}
use Rattle.mtn_roster.specs.Walk.{by_path}
use Rattle.mtn_marking.proofs.Fitting.{for_long}
use Rattle.mtn_marking.proofs.Zips.{got_at}
use Rattle.mtn_roster_deltas.specs.Numbering.{all_of, shown}
use Rattle.mtn_roster_deltas.specs.Noting.{AreNoted, AreFilled}
use Rattle.mtn_roster_deltas.proofs.Places.{marked_names, tree_names, get_map, fills_begin, back_is}
use Rattle.mtn_roster_deltas.proofs.Visiting.{same_names, names_up, stop_is, stops_long, once, met_more, all_filled, all_met}
use Rattle.mtn_roster_deltas.proofs.Known.{walk_long}
use Rattle.mtn_roster_deltas.proofs.noting.numbers_of.Goals as goal

pub loop-stop-init : goal.loop-stop-init
loop-stop-init c = (
  c.in_ok-numbers.ensures.long ∙ ap length c.marks.ensures ∙ sym (for_long c.args.roster.now.tree c.args.roster.now.marks c.roster-tree.ensures.fits),
  omega arith,
  λ known. fills_begin (all_of (shown c.args.known.now)) c.args.next (tree_names c.args.roster.now.tree) c.in_ok-numbers.numbers.items
      (subst (λ (l : List NodeName). AreNoted (all_of (shown c.args.known.now)) l c.in_ok-numbers.numbers.items) (ap marked_names c.marks.ensures ∙ same_names c.args.roster.now.tree c.args.roster.now.marks c.roster-tree.ensures.fits)
      (c.in_ok-numbers.ensures.noted (record { number = known.one_number; above = known.from_one }))),
)

pub fill_one-free-requires-clause-within : goal.fill_one-free-requires-clause-within
fill_one-free-requires-clause-within c =
    let t = c.args.roster.now.tree in
    let s = stop_is t c.args.stops.now c.requires.walk c.loop-stop.stop-index (record { place = 0; above = 0 }) c.loop-stop-test.true in
    omega (arith, (got_at t _ s.0 s.2).0, ap length c.deref_mut.ensures.value, c.loop-stop.invariant.0)

pub fill_one-free-requires-clause-room : goal.fill_one-free-requires-clause-room
fill_one-free-requires-clause-room c =
    let t = c.args.roster.now.tree in
    omega (arith, c.loop-stop.invariant.1, stops_long t c.args.stops.now c.requires.walk, c.loop-stop-test.true, walk_long t, c.requires.room)

pub loop-stop-preserved : goal.loop-stop-preserved
loop-stop-preserved c =
    let t = c.args.roster.now.tree in
    let es = all_of (shown c.args.known.now) in
    let i = c.loop-stop.stop-index in
    let w = by_path t in
    let s = stop_is t c.args.stops.now c.requires.walk i (record { place = 0; above = 0 }) c.loop-stop-test.true in
    let sane = subst IsSane c.roster-tree.ensures.tree c.len-sane.ensures.sane in
    let back = back_is c.fill_one-free.new.numbers c.loop-stop.numbers.items c.loop-stop.numbers.len (c.fill_one-free.auto.numbers ∙ c.deref_mut.ensures.len) in (
      ap length back ∙ c.fill_one-free.auto.numbers ∙ ap length c.deref_mut.ensures.value ∙ c.loop-stop.invariant.0,
      omega (arith, c.loop-stop.invariant.1, c.fill_one-free.ensures.most),
      λ known. subst (λ (ns : List ℕ). AreFilled es c.args.next (tree_names t) (tree_names (take (i + 1) w)) ns c.fill_one-free.result) (sym back)
          (subst (λ (met : List NodeName). AreFilled es c.args.next (tree_names t) met c.fill_one-free.new.numbers c.fill_one-free.result) (sym (met_more w i s.0 s.1))
          (c.fill_one-free.ensures.filled es c.args.next (tree_names t) (tree_names (take i w)) s.0.name known.next_from_one (names_up t sane)
          (get_map (λ (e : Entry). e.name) t _ ∙ ap (option_map (λ (e : Entry). e.name)) s.2) (once t sane i s.0 s.1)
          (subst (λ (ns : List ℕ). AreFilled es c.args.next (tree_names t) (tree_names (take i w)) ns c.loop-stop.free) (sym c.deref_mut.ensures.value) (c.loop-stop.invariant.2 known)))),
    )

pub returns-clause-numbers : goal.returns-clause-numbers
returns-clause-numbers c = λ known.
    let t = c.args.roster.now.tree in
    let sane = subst IsSane c.roster-tree.ensures.tree c.len-sane.ensures.sane in
    all_filled (shown c.args.known.now) c.args.next t c.loop-stop.numbers.items c.loop-stop.free c.loop-stop.stop-index sane
    (omega (arith, stops_long t c.args.stops.now c.requires.walk, c.loop-stop-test.false)) c.loop-stop.invariant.0 (c.loop-stop.invariant.2 known)

pub returns-clause-next : goal.returns-clause-next
returns-clause-next c = λ known.
    let t = c.args.roster.now.tree in
    all_met (shown c.args.known.now) c.args.next t c.loop-stop.numbers.items c.loop-stop.free c.loop-stop.stop-index
    (omega (arith, stops_long t c.args.stops.now c.requires.walk, c.loop-stop-test.false)) (c.loop-stop.invariant.2 known)
