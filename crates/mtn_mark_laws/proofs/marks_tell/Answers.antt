use Rattle.std.proofs.Math.Decide.{ℕ_discrete}
use Rattle.std.proofs.Common.{ℕ}
use Rattle.mtn_mark_laws.proofs.Covering.{wins_by_marks, marks_by_wins}
use Rattle.mtn_mark_laws.proofs.marks_tell.Goals as goal

pub returns : goal.returns
returns c parents value early never a b v e =
    (wins_by_marks ℕ ℕ_discrete parents early value never a b v e, marks_by_wins ℕ ℕ_discrete parents early value never a b)
