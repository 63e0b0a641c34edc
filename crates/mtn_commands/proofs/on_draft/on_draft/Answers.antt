use Rattle.mtn_commands.proofs.ReplyLemmas.{replies_as}
use Rattle.mtn_commands.proofs.on_draft.on_draft.Goals as goal

pub returns-in-Merge-clause-replies : goal.returns-in-Merge-clause-replies
returns-in-Merge-clause-replies g c = rw c.in-Merge.is c.merge.ensures.replies

pub returns-in-MergeHeads-clause-replies : goal.returns-in-MergeHeads-clause-replies
returns-in-MergeHeads-clause-replies g c = rw c.in-MergeHeads.is c.merge_heads.ensures.replies

pub returns-in_default-clause-replies : goal.returns-in_default-clause-replies
returns-in_default-clause-replies g c = replies_as _ _ _ _ _ _ _ _ _ _ c.answered.result c.told.result c.told.ensures c.answered.ensures.drafts
