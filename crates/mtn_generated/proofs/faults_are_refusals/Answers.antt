use Rattle.mtn_generated.proofs.Faults.{refused}
use Rattle.mtn_generated.proofs.faults_are_refusals.Goals as goal

pub returns : goal.returns
returns c f files h id manifest e cause room fault = refused f files h id manifest e cause room fault
