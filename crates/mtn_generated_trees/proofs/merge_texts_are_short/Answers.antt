use Rattle.mtn_generated_trees.proofs.Small.{is_small}
use Rattle.mtn_generated_trees.proofs.Texts.{merge_short}
use Rattle.mtn_generated_trees.proofs.merge_texts_are_short.Goals as goal

pub returns : goal.returns
returns c f h a b i j k m n o t ids li lj lk lm ln lo ta tb sa sb st fa fb ft =
    merge_short f ids h t st (is_small f ids k o lk lo t st ft) a b ta tb sa sb (is_small f ids i m li lm _ sa fa) (is_small f ids j n lj ln _ sb fb)
