use Rattle.mtn_generated_trees.proofs.Limits.{few, not_too_long, not_too_many, short_text}
use Rattle.mtn_generated_trees.proofs.formed_trees_are_within_limits.Goals as goal

pub returns : goal.returns
returns c = record {
  few = λ f i m t small sane form. few f i m small t sane form;
  nodes = λ f i m t small sane form. not_too_many f i m small t sane form;
  short = λ f i m t p e small form there. short_text i small p (form.no_more p e there);
  paths = λ f i m t small sane form. not_too_long f i m small t sane form;
}
