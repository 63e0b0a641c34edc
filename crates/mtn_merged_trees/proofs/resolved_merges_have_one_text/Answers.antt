-- New names keep the paths.
use Rattle.mtn_merged_trees.proofs.Again.{edges_again, long_again, manifest_again, many_again}
use Rattle.mtn_merged_trees.proofs.resolved_merges_have_one_text.Goals as goal

pub returns : goal.returns
returns _ = record {
  edges = λ f files log h a b x y p q m c d rs is ia ib order by fit are none lx rx ly ry. edges_again f files log h is a b p q ia ib m c d rs order by fit are none x y lx rx ly ry;
  manifest = λ f files log h a b x y p q m c d rs is ia ib order by fit are none lx rx ly ry. manifest_again f files log h is a b p q ia ib m c d rs order by fit are none x y lx rx ly ry;
  limits = λ f files log h a b x y p q m c d rs is ia ib order by fit are none lx rx ly ry. (
    many_again f files log h is a b p q ia ib m c d rs order by fit are none x y lx rx ly ry,
    long_again f files log h is a b p q ia ib m c d rs order by fit are none x y lx rx ly ry,
  );
}
