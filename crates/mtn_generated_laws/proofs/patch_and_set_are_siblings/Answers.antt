use Rattle.mtn_generated_laws.proofs.Sides.{are_siblings}
use Rattle.mtn_generated_laws.proofs.patch_and_set_are_siblings.Goals as goal

pub returns : goal.returns
returns c h parent left right p q from to x y key value of_left of_right patches sets = are_siblings h parent left right p q from to x y key value of_left of_right patches sets
