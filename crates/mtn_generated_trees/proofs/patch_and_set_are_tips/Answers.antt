use Rattle.mtn_generated_trees.proofs.Tips.{are_tips}
use Rattle.mtn_generated_trees.proofs.patch_and_set_are_tips.Goals as goal

pub returns : goal.returns
returns c h parent left right p q from to x y key value differ of_left of_right patches sets = are_tips h parent left right p q from to x y key value differ of_left of_right patches sets
