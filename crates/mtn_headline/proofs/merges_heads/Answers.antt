-- A merge of heads is a merge of the two least, with what is said of it.
use Rattle.mtn_headline.proofs.Saying.{heads_in_conflict, heads_merged, merge_heads_is}
use Rattle.mtn_headline.proofs.merges_heads.Goals as goal

pub returns : goal.returns
returns _ = record {
  least = λ f s h branch author date key resolves payload l r rest o is heads does. merge_heads_is f s h branch author date key resolves payload l r rest o is heads does;
  conflicts = λ f s h branch author date key resolves payload l r rest o is heads does order d are some. heads_in_conflict f s h branch author date key resolves payload l r rest o is heads does order d are some;
  merged = λ f s h branch author date key resolves payload l r rest x o ids lawful is heads does order d are none ux within short.
      heads_merged f s h branch author date key resolves payload l r rest o is heads does order d are ids lawful none x ux within short;
}
