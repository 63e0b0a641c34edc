-- The lesser id is left, whichever was named first.
use Rattle.mtn_step_laws.proofs.Swapped.{merge_turned, shown_turned}
use Rattle.mtn_step_laws.proofs.sides_in_any_order.Goals as goal

pub returns : goal.returns
returns _ = record {
  merge = λ f s a b resolves payload o ha hb is. merge_turned f s a b resolves payload o ha hb is;
  show_conflicts = λ f s a b payload o ha hb is. shown_turned f s a b payload o ha hb is;
}
