use Rattle.std.specs.Prelude.{length}
use Rattle.std.proofs.Common.{◌≡◌, ◌+◌, ◌<◌, ℕ, Vec, Global, refl, true, false, sym, ap, ◌∙◌, subst, arith}
use Rattle.mtn_ancestry.specs.Log.{parents_of}
use Rattle.mtn_graph_queries.specs.Places.{IsWanted}
use Rattle.mtn_graph_queries.proofs.Wanting.{ListsBelow, lists_skip, lists_push, lists_all, parents_here}
use Rattle.mtn_graph_queries.proofs.sets.places_of.Goals as goal
use Rattle.mtn_graph_queries.proofs.sets.places_of.Goals.{then-is_wanted+in_ok-push, else-is_wanted}

pub loop-at-preserved : goal.loop-at-preserved
loop-at-preserved c =
    let at = c.loop-at.at in
    let lt : at < length c.args.graph.now = subst (λ xs. at < length xs) c.entries-log.ensures.value c.loop-at-test.true in
    let read = parents_here c.args.graph.now c.entries-log.result.now at at c.index-log-at.result _ c.entries-log.ensures.value refl lt refl in
    elim c.if-is_wanted.branch [
      | then-is_wanted+in_ok-push w ↦ subst (λ (v : Vec ℕ Global). ListsBelow (λ x. IsWanted c.args.wanted.now (parents_of c.args.graph.now x)) (at + 1) v.items) (sym w.found-is)
          (subst (ListsBelow (λ x. IsWanted c.args.wanted.now (parents_of c.args.graph.now x)) (at + 1)) (sym w.in_ok-push.ensures.items)
          (lists_push (λ x. IsWanted c.args.wanted.now (parents_of c.args.graph.now x)) at c.loop-at.found.items c.loop-at.invariant (subst (IsWanted c.args.wanted.now) (sym read) (c.is_wanted.ensures.0 w.if-is_wanted.true))))
      | else-is_wanted w ↦ subst (λ (v : Vec ℕ Global). ListsBelow (λ x. IsWanted c.args.wanted.now (parents_of c.args.graph.now x)) (at + 1) v.items) (sym w.found-is)
          (lists_skip (λ x. IsWanted c.args.wanted.now (parents_of c.args.graph.now x)) at c.loop-at.found.items c.loop-at.invariant
          (λ wanted. absurd (let yes = c.is_wanted.ensures.1 (subst (IsWanted c.args.wanted.now) read wanted) in let both : true ≡ false = sym yes ∙ w.if-is_wanted.false in cc)))
    ]

pub returns : goal.returns
returns c = lists_all (λ x. IsWanted c.args.wanted.now (parents_of c.args.graph.now x)) c.loop-at.at (length c.args.graph.now) c.loop-at.found.items (let same = ap length c.entries-log.ensures.value in omega (arith, c.loop-at.auto.at-end, c.loop-at-test.false)) c.loop-at.invariant
