use Rattle.mtn_generated_steps.proofs.Growing.{all_or_collision, only_collisions}
use Rattle.mtn_generated_steps.proofs.only_collisions_stop.Goals as goal

pub returns : goal.returns
returns c = record {
  stops = λ f n s stop makes law empty low is. only_collisions f makes s law empty n low stop is;
  comes = λ f n s makes law empty low. all_or_collision f makes s law empty n low;
}
