use Rattle.mtn_generated_steps.proofs.Patching.{fine, form_after}
use Rattle.mtn_generated_steps.proofs.patches_apply.Goals as goal

pub returns : goal.returns
returns c = record {
  fine = λ f i m t sane form some work new_content. fine f i m t sane form some work new_content;
  form = λ f i m t x sane form some work new_content unborn. form_after f i m t sane form some work new_content x unborn;
}
