use Rattle.std.proofs.Common.{ℕ}
use Rattle.mtn_mark_laws.proofs.ByWay.{two_spellings}
use Rattle.mtn_mark_laws.proofs.two_spellings.Goals as goal

pub returns : goal.returns
returns c parents value r x = two_spellings ℕ parents value r x
