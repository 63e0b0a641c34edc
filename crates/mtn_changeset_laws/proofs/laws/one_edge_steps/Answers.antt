-- From what descends.
use Rattle.mtn_changeset_laws.proofs.Stepping.{root_step, one_step}
use Rattle.mtn_changeset_laws.proofs.laws.one_edge_steps.Goals as goal

pub returns : goal.returns
returns c = record {
  root = λ log all id fresh once fine. root_step log all id fresh once fine;
  one = λ log p all id births known sane fresh once fine. one_step log p all id births known sane fresh once fine;
}
