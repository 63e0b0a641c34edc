use Rattle.mtn_headline.proofs.Saying.{commit_is}
use Rattle.mtn_headline.proofs.commits.Goals as goal

pub returns : goal.returns
returns c f said payload s o does = commit_is f said s o payload does
