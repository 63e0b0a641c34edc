use Rattle.mtn_exports.proofs.Sending.{one_export}
use Rattle.mtn_exports.proofs.laws.one_export.Goals as goal

pub returns : goal.returns
returns c s h id have a b x y = one_export s h id have a b x y
