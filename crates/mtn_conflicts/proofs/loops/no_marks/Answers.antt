use Rattle.std.specs.Prelude.{slice_index}
use Rattle.std.proofs.Common.{◌+◌, ◌∷◌, [], ℕ, List, length, length-append, ap, ◌∙◌}
use Rattle.mtn_conflicts.proofs.Seen.{unmarked_more}
use Rattle.mtn_conflicts.proofs.loops.no_marks.Goals as goal

pub loop-preserved : goal.loop-preserved
loop-preserved c =
    let e = c.in_ok-push.ensures.items in
    record {
      long = ap length e ∙ length-append c.loop.marks.items (0 ∷ []) ∙ ap (λ n. n + 1) c.loop.invariant.long;
      none = λ k. ap (λ (l : List ℕ). slice_index l k) e ∙ unmarked_more c.loop.marks.items c.loop.invariant.none k;
    }
