use Rattle.mtn_generated.proofs.Following.{kept, renamed}
use Rattle.mtn_generated.proofs.directories_stay.Goals as goal

pub returns : goal.returns
returns c = record {
  kept = λ i some not. kept i some not;
  renamed = λ i is. renamed i is;
}
