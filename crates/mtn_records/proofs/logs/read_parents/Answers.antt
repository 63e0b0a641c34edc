-- Two parents are a pair.
use Rattle.std.proofs.Common.{◌∙◌, ap, ◌∷◌}
use Rattle.mtn_records.proofs.Recording.{parents_by_two}
use Rattle.mtn_records.proofs.logs.read_parents.Goals as goal

pub returns-in_err-first-in-2 : goal.returns-in_err-first-in-2
returns-in_err-first-in-2 c =
    rw c.from_residual-in_err-first-in-2.ensures
    (parents_by_two c.args.bytes.now c.in_ok-count.rest.now (c.in_ok-count.ensures.whole ∙ ap (λ n. n ∷ c.in_ok-count.rest.now) c.in-2.is) c.in_err-first-in-2.ensures)
