-- By the walk's steps.
use Rattle.std.proofs.Common.{◌≡◌, ◌<◌, ◌++◌, ◌∷◌, [], List, length, Some, arith, rules, refl, sym, ◌∙◌, ap}
use Rattle.mtn_roster.specs.declared.entry.Entry.{Entry}
use Rattle.mtn_roster.specs.declared.walk.Stop.{Stop}
use Rattle.std.specs.Cmp.{first_so}
use Rattle.std.proofs.lemmas.Option.{slice_get-get_or}
use Rattle.mtn_roster.proofs.Telling.{root_by_sane}
use Rattle.mtn_roster.proofs.Walking.{has}
use Rattle.mtn_roster.proofs.Stops.{stop_at, begins, waits_within, goes_on, nearer, ends}
use Rattle.mtn_roster.proofs.walk.stops_of.Goals as goal
use Rattle.mtn_roster.proofs.walk.stops_of.Goals.{in-Some+in_ok-push, in_default}

nil_of : (xs : List Stop) → length xs ≡ 0 → xs ≡ []
nil_of [] h = refl
nil_of (x ∷ xs) h = absurd (omega (arith, h))

pub loop-stop-init : goal.loop-stop-init
loop-stop-init c = elim c.match-root_place.branch [
  | in-Some+in_ok-push w ↦
      begins c.args.entries.now c.requires.sane c.args.by_slot.now c.requires.index c.in_ok-stops.stops.items c.match-root_place.waiting.items w.in-Some.place c.in_ok-stops.ensures.items
      (ap (λ v. v.items) w.waiting-is ∙ w.in_ok-push.ensures.items ∙ ap (λ (l : List Stop). l ++ stop_at 0 w.in-Some.place ∷ []) c.new-waiting.ensures.items)
      w.in-Some.ensures.within w.in-Some.ensures.entry
  | in_default w ↦
      let a = w.in_default.ensures.entry in
      let b = root_by_sane c.args.entries.now (first_so _ _ c.requires.sane.ordered) c.requires.sane.sane in
      absurd cc
]

pub bounds-entries-stop : goal.bounds-entries-stop
bounds-entries-stop c = waits_within c.args.entries.now c.requires.sane c.args.by_slot.now c.requires.index c.loop-stop.stops.items c.loop-stop.waiting.items c.pop.new.self.items c.in-Some-pop.stop c.in-Some-pop.ensures.items c.loop-stop.invariant

pub offset_bounds-entries-stop : goal.offset_bounds-entries-stop
offset_bounds-entries-stop c =
    let low : c.in-Some-pop.stop.place < length c.args.entries.now = waits_within c.args.entries.now c.requires.sane c.args.by_slot.now c.requires.index c.loop-stop.stops.items c.loop-stop.waiting.items c.pop.new.self.items c.in-Some-pop.stop c.in-Some-pop.ensures.items c.loop-stop.invariant in
    search rules

pub run_below-run-requires-clause-node : goal.run_below-run-requires-clause-node
run_below-run-requires-clause-node c =
    let t = c.args.entries.now in
    let e : Entry = c.index-entries-stop.result in
    let low : c.in-Some-pop.stop.place < length t = waits_within t c.requires.sane c.args.by_slot.now c.requires.index c.loop-stop.stops.items c.loop-stop.waiting.items c.pop.new.self.items c.in-Some-pop.stop c.in-Some-pop.ensures.items c.loop-stop.invariant in
    has t c.requires.sane c.in-Some-pop.stop.place e low (slice_get-get_or t c.in-Some-pop.stop.place e low ∙ ap Some (sym c.index-entries-stop.is))

pub run_below-run-requires-clause-within : goal.run_below-run-requires-clause-within
run_below-run-requires-clause-within c = waits_within c.args.entries.now c.requires.sane c.args.by_slot.now c.requires.index c.loop-stop.stops.items c.loop-stop.waiting.items c.pop.new.self.items c.in-Some-pop.stop c.in-Some-pop.ensures.items c.loop-stop.invariant

pub run_below-run-requires-clause-there : goal.run_below-run-requires-clause-there
run_below-run-requires-clause-there c =
    let t = c.args.entries.now in
    let e : Entry = c.index-entries-stop.result in
    let low : c.in-Some-pop.stop.place < length t = waits_within t c.requires.sane c.args.by_slot.now c.requires.index c.loop-stop.stops.items c.loop-stop.waiting.items c.pop.new.self.items c.in-Some-pop.stop c.in-Some-pop.ensures.items c.loop-stop.invariant in
    slice_get-get_or t c.in-Some-pop.stop.place e low ∙ ap Some (sym c.index-entries-stop.is)

pub loop-stop-preserved : goal.loop-stop-preserved
loop-stop-preserved c =
    let t = c.args.entries.now in
    let e : Entry = c.index-entries-stop.result in
    goes_on t c.requires.sane c.args.by_slot.now c.requires.index c.loop-stop.stops.items c.loop-stop.waiting.items c.pop.new.self.items c.push-in-Some-pop.new.self.items c.push_run.new.waiting.items c.in-Some-pop.stop e
    c.run_below-run.result.now c.len.result (omega (arith, c.len.ensures)) c.in-Some-pop.ensures.items c.loop-stop.invariant c.index-entries-stop.is
    c.run_below-run.ensures
    c.in_ok-push_run.ensures c.in_ok-push-2.ensures.items

pub loop-stop-smaller : goal.loop-stop-smaller
loop-stop-smaller c =
    let t = c.args.entries.now in
    let e : Entry = c.index-entries-stop.result in
    nearer t c.requires.sane c.args.by_slot.now c.requires.index c.loop-stop.stops.items c.push-in-Some-pop.new.self.items c.push_run.new.waiting.items c.in-Some-pop.stop c.in_ok-push-2.ensures.items
    (goes_on t c.requires.sane c.args.by_slot.now c.requires.index c.loop-stop.stops.items c.loop-stop.waiting.items c.pop.new.self.items c.push-in-Some-pop.new.self.items c.push_run.new.waiting.items c.in-Some-pop.stop e
    c.run_below-run.result.now c.len.result (omega (arith, c.len.ensures)) c.in-Some-pop.ensures.items c.loop-stop.invariant c.index-entries-stop.is
    c.run_below-run.ensures
    c.in_ok-push_run.ensures c.in_ok-push-2.ensures.items)

pub returns : goal.returns
returns c = ends c.args.entries.now c.requires.sane c.args.by_slot.now c.requires.index c.loop-stop.stops.items c.loop-stop.waiting.items (nil_of c.loop-stop.waiting.items (omega (arith, c.in_default-pop.ensures.cases))) c.loop-stop.invariant
