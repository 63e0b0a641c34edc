use Rattle.mtn_generated.proofs.Counted.{files_kept, merges_made}
use Rattle.mtn_generated.proofs.counts.Goals as goal

pub returns : goal.returns
returns c = record {
  merges = λ n. merges_made n;
  files = λ n some. files_kept n some;
}
