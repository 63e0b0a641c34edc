-- The plan of a merge in order is one, and its text is accepted.
use Rattle.mtn_headline.proofs.Merged.{in_conflict, is_merged}
use Rattle.mtn_headline.proofs.merges.Goals as goal

pub returns : goal.returns
returns _ = record {
  conflicts = λ f s h a b resolves payload o is does order d are some. in_conflict f s h a b resolves payload o is order d are does some;
  merged = λ f s h a b x resolves payload o ids lawful is does order d are none ux within. is_merged f s h a b resolves payload o is order d are ids lawful none x ux within does;
}
