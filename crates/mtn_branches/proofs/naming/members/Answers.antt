use Rattle.std.specs.Prelude.{Contains}
use Rattle.mtn_branches.specs.Branches.{IsMember}
use Rattle.mtn_branches.proofs.HeadLemmas.{put_list}
use Rattle.mtn_branches.proofs.naming.members.Goals as goal

pub returns : goal.returns
returns c = put_list (IsMember (Contains c.args.certs.now) c.args.branch.now) _ _ c.put_in_order.ensures c.in_ok-ids.ensures.exact
