use Rattle.mtn_generated_trees.proofs.Forming.{form_of, more}
use Rattle.mtn_generated_trees.proofs.Staying.{stays}
use Rattle.mtn_generated_trees.proofs.forms_are_kept.Goals as goal

pub returns : goal.returns
returns c = record {
  unions = λ f i m k n left right t sl sr st of_left of_right union. form_of f i m k n left right t sl sr st of_left of_right union;
  stay = λ f i m t some no_patch no_rename form. stays f i m some no_patch no_rename t form;
  more = λ f i m n t le form. more f i m n t le form;
}
