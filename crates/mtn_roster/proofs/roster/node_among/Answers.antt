-- Where nothing stands at the front of a path, nothing stands at the path.
use Rattle.std.proofs.Common.{◌≡◌, ◌+◌, ℕ, List, [], Option, None, Some, slice_get, option_and_then, length, ◌<◌, take, get_or, sym, ◌∙◌, ap}
use Rattle.mtn_roster.specs.Tree.{Tree, node_at, child_of}
use Rattle.mtn_roster.proofs.Pathing.{node_at-none, node_at-next, node_at-lost}
use Rattle.mtn_roster.proofs.roster.node_among.Goals as goal

-- what stands one component further
further : (t : Tree) (comps : List (List ℕ)) (i at : ℕ) (name : List ℕ) (child : Option ℕ) → i < length comps → name ≡ get_or comps i name → slice_get t at ≡ node_at t (take i comps) →
    option_and_then (slice_get t) child ≡ option_and_then (child_of t name) (slice_get t at) → option_and_then (slice_get t) child ≡ node_at t (take (i + 1) comps)
further t comps i at name child low is here below = below ∙ ap (option_and_then (child_of t name)) here ∙ sym (node_at-next t comps i name low is)

pub returns-in_err-at-clause-entry : goal.returns-in_err-at-clause-entry
returns-in_err-at-clause-entry c =
    let t = c.args.entries.now in
    ap (option_and_then (slice_get t)) c.from_residual.ensures ∙ sym (node_at-none t [] c.args.comps.now (sym c.in_err-at.ensures.entry))

pub returns-in_err-at-2-clause-entry : goal.returns-in_err-at-2-clause-entry
returns-in_err-at-2-clause-entry c =
    let t = c.args.entries.now in
    let comps = c.args.comps.now in
    let i = c.loop-comp.comp-index in
    ap (option_and_then (slice_get t)) c.from_residual-in_err-at-2.ensures
    ∙ sym (node_at-lost t comps (i + 1) (sym (further t comps i c.loop-comp.at c.comp-item.result None c.loop-comp-test.true c.comp-item.is c.loop-comp.invariant.1 c.in_err-at-2.ensures.entry)))

pub loop-comp-preserved : goal.loop-comp-preserved
loop-comp-preserved c =
    (c.in_ok-at-2.ensures.within, further c.args.entries.now c.args.comps.now c.loop-comp.comp-index c.loop-comp.at c.comp-item.result (Some c.in_ok-at-2.at) c.loop-comp-test.true c.comp-item.is c.loop-comp.invariant.1 c.in_ok-at-2.ensures.entry)
