use Rattle.mtn_generated_steps.proofs.Fitting.{rename_fits}
use Rattle.mtn_generated_steps.proofs.renames_apply.Goals as goal

pub returns : goal.returns
returns c = record {
  fine = λ f i m t sane form some low work. (rename_fits f i m t sane form some low work).fine;
  form = λ f i m t x sane form some low work unborn. (rename_fits f i m t sane form some low work).form x unborn;
}
