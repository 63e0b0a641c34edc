use Rattle.std.specs.List.Sorted.{IsStrictlyIncreasing}
use Rattle.std.proofs.Common.{◌≡◌, ◌+◌, ◌≤◌, ℕ, Vec, Global, length, true, false, sym, ◌∙◌, subst}
use Rattle.mtn_graph_queries.proofs.Wanting.{Leaves, leaves_skip, leaves_push, leaves_all}
use Rattle.mtn_graph_queries.proofs.sets.without.Goals as goal
use Rattle.mtn_graph_queries.proofs.sets.without.Goals.{then-is_in_neither+in_ok-push, else-is_in_neither}

pub loop-at-preserved : goal.loop-at-preserved
loop-at-preserved c =
    let all = c.as_slice-at-items.result.now in
    let some = c.args.some.now in
    let others = c.args.others.now in
    let i = c.loop-at.at-index in
    let up : IsStrictlyIncreasing all = rw c.as_slice-at-items.ensures.value c.as_slice-at-items.ensures.ascending in
    let so_far : Leaves all some others i c.loop-at.found.items = rw c.as_slice-at-items.ensures.value c.loop-at.invariant in
    subst (λ l. Leaves l some others (i + 1) c.if-is_in_neither.found.items) c.as_slice-at-items.ensures.value
    (elim c.if-is_in_neither.branch [
      | then-is_in_neither+in_ok-push w ↦ subst (λ (v : Vec ℕ Global). Leaves all some others (i + 1) v.items) (sym w.found-is) (subst (Leaves all some others (i + 1)) (sym w.in_ok-push.ensures.items)
          (let out = c.is_in_neither.ensures.0 w.if-is_in_neither.true in leaves_push all some others up i c.at-item.result c.loop-at.found.items c.loop-at-test.true c.at-item.is out.0 out.1 so_far))
      | else-is_in_neither w ↦ subst (λ (v : Vec ℕ Global). Leaves all some others (i + 1) v.items) (sym w.found-is)
          (leaves_skip all some others up i c.at-item.result c.loop-at.found.items c.loop-at-test.true c.at-item.is
          (λ a b. absurd (let yes = c.is_in_neither.ensures.1 (a, b) in let both : true ≡ false = sym yes ∙ w.if-is_in_neither.false in cc)) so_far)
    ])

pub returns : goal.returns
returns c = leaves_all c.args.all.now c.args.some.now c.args.others.now c.as_slice-at-items.ensures.ascending c.loop-at.at-index c.loop-at.found.items (subst (λ l. length l ≤ c.loop-at.at-index) c.as_slice-at-items.ensures.value c.loop-at-test.false) c.loop-at.invariant
