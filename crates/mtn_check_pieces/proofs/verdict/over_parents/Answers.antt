-- No tree is made of three parents.
use Rattle.std.proofs.Common.{◌≤◌, length, subst}
use Rattle.mtn_check_pieces.proofs.Answering.{too_many}
use Rattle.mtn_check_pieces.proofs.verdict.over_parents.Goals as goal

pub returns-in_default : goal.returns-in_default
returns-in_default c = λ t h. too_many c.args.job.now c.args.edges.now t c.args.job.now.parents (subst (λ l. 3 ≤ length l) c.as_slice.ensures c.in_default.len_at_least) h.1
