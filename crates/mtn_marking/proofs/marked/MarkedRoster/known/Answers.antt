-- The entry and the marking stand at one place.
use Rattle.std.proofs.Common.{◌∙◌, sym, ap}
use Rattle.mtn_marking.specs.Marking.{MarkedTree, known_in}
use Rattle.mtn_marking.proofs.Knowing.{known_at, not_lacking, keys_rise, for_at}
use Rattle.mtn_marking.proofs.marked.MarkedRoster.known.Goals as goal

pub returns-in-None-at_place-clause-known : goal.returns-in-None-at_place-clause-known
returns-in-None-at_place-clause-known c = absurd (not_lacking c.self.inside.roster c.self.inside.marks c.self.invariant c.in-Some.place c.in-Some.ensures.within c.in-None-at_place.ensures)

pub returns-in-Some-at_place-2-clause-known : goal.returns-in-Some-at_place-2-clause-known
returns-in-Some-at_place-2-clause-known c =
    known_at c.self.inside.roster c.self.inside.marks c.len-sane.ensures.sane c.self.invariant c.args.name.now c.in-Some.place c.in-Some-at_place.entry.now c.in-Some-at_place-2.node.now
    (sym c.in-Some-at_place.ensures) (sym c.in-Some-at_place-2.ensures) c.in-Some.ensures.node
    ∙ ap (λ (v : MarkedTree). known_in v c.args.name.now) c.self.view_is

pub returns-in-Some-at_place-2-clause-orderly : goal.returns-in-Some-at_place-2-clause-orderly
returns-in-Some-at_place-2-clause-orderly c = (
  keys_rise c.self.inside.roster c.len-sane.ensures.sane c.in-Some.place c.in-Some-at_place.entry.now (sym c.in-Some-at_place.ensures),
  (for_at c.self.inside.roster c.self.inside.marks c.self.invariant c.in-Some.place c.in-Some-at_place.entry.now c.in-Some-at_place-2.node.now (sym c.in-Some-at_place.ensures) (sym c.in-Some-at_place-2.ensures)).keys,
)
