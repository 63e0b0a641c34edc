use Rattle.mtn_history.proofs.Remembering.{begun}
use Rattle.mtn_history.proofs.draft.Draft.new.Goals as goal

pub invariant_of-result : goal.invariant_of-result
invariant_of-result g c = (
  begun (g.K.Keeper.contents c.args.keeper.now) c.args.pending c.args.memory c.requires.knows c.requires.counted,
  c.requires.counted,
)
