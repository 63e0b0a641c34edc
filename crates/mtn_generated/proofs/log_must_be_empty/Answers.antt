use Rattle.mtn_generated.proofs.Stopping.{not_empty}
use Rattle.mtn_generated.proofs.log_must_be_empty.Goals as goal

pub returns : goal.returns
returns c f n s answer some is = not_empty f n s answer some is
