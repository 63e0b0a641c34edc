use Rattle.mtn_generated_steps.proofs.Fitting.{set_fits}
use Rattle.mtn_generated_steps.proofs.attributes_apply.Goals as goal

pub returns : goal.returns
returns c = record {
  fine = λ f i m t sane form some most low before work. (set_fits f i m t sane form some most low before work).fine;
  form = λ f i m t x sane form some most low before work unborn. (set_fits f i m t sane form some most low before work).form x unborn;
}
