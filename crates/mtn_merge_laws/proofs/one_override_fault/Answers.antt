use Rattle.mtn_merge_laws.proofs.OneOverride.{no_fault, one_fault}
use Rattle.mtn_merge_laws.proofs.one_override_fault.Goals as goal

pub returns : goal.returns
returns _ = record {
  apart = λ m c rs e fits f. no_fault m c rs e fits f;
  fault = λ m c rs d e nd ne f g. one_fault m c rs d e nd ne f g;
}
