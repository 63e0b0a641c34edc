use Rattle.std.proofs.Math.Decide.{ℕ_discrete}
use Rattle.std.proofs.Common.{ℕ}
use Rattle.mtn_mark_laws.proofs.Winning.{one_value}
use Rattle.mtn_mark_laws.proofs.one_winner.Goals as goal

pub returns : goal.returns
returns c parents value early never a b v w ea eb ab ba = one_value ℕ ℕ_discrete parents early value never a b v w ea eb ab ba
