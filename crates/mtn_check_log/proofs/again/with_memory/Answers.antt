use Rattle.std.proofs.Common.{Ok, Some, subst}
use Rattle.mtn_check_log.specs.Positions.{IsTaken}
use Rattle.mtn_check_log.proofs.again.with_memory.Goals as goal

pub returns-in-Ok-Some-clause-again : goal.returns-in-Ok-Some-clause-again
returns-in-Ok-Some-clause-again c f s r text d knows taken =
    let t : IsTaken f s r text d (Ok (Some c.in-Ok-Some.records)) = subst (λ o. IsTaken f s r text d (Ok o)) c.in-Ok-Some.field-0-is (subst (IsTaken f s r text d) c.in-Ok-Some.is taken) in
    (d, t.0, t.1, t.2, (t.3, knows))
