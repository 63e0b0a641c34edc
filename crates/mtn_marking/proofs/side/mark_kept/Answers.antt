use Rattle.std.proofs.Common.{inl}
use Rattle.std.proofs.lemmas.Result.{IfOk-weaker}
use Rattle.mtn_marking.proofs.side.mark_kept.Goals as goal

pub returns-then-all_known : goal.returns-then-all_known
returns-then-all_known c = IfOk-weaker _ _ _ (λ marks e. inl (c.all_known.ensures.0 c.if-all_known.true, e)) c.copy.ensures
