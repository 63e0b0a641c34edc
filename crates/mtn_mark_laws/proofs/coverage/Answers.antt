use Rattle.std.proofs.Math.Decide.{ℕ_discrete}
use Rattle.std.proofs.Common.{ℕ}
use Rattle.mtn_mark_laws.proofs.Covering.{covers}
use Rattle.mtn_mark_laws.proofs.coverage.Goals as goal

pub returns-clause-some : goal.returns-clause-some
returns-clause-some c parents value early never r v e = (covers ℕ ℕ_discrete parents early value never r v e).0

pub returns-clause-covered : goal.returns-clause-covered
returns-clause-covered c parents value early never r v m e a k = (covers ℕ ℕ_discrete parents early value never r v e).1 m a k
