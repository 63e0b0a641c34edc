use Rattle.mtn_exports.proofs.Sending.{some_export}
use Rattle.mtn_exports.proofs.laws.some_export.Goals as goal

pub returns : goal.returns
returns c f s h is lists id have = some_export f s h is lists id have
