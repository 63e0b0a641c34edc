use Rattle.std.proofs.Common.{sym}
use Rattle.mtn_generated.proofs.Counted.{merges_made}
use Rattle.mtn_generating.proofs.summary.merges.Goals as goal

pub returns : goal.returns
returns c = sym (merges_made c.args.count)
