use Rattle.mtn_generated.proofs.Following.{again, between}
use Rattle.mtn_generated.proofs.patches_follow.Goals as goal

pub returns : goal.returns
returns c = record {
  again = λ i is far. again i is far;
  between = λ i k is also after before. between i k is also after before;
}
