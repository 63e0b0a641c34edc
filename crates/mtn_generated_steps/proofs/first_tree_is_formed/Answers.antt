use Rattle.std.proofs.Common.{[], sym, subst}
use Rattle.mtn_changeset_laws.specs.Changes.{tree_after}
use Rattle.mtn_generated_laws.proofs.Readable.{digits_same}
use Rattle.mtn_generated_trees.specs.Formed.{IsFormed}
use Rattle.mtn_generated_steps.proofs.First.{form}
use Rattle.mtn_generated_steps.proofs.first_tree_is_formed.Goals as goal

pub returns : goal.returns
returns c f x = subst (λ cs. IsFormed f 1 0 (tree_after [] cs x)) (sym (digits_same f)) (form f x)
