use Rattle.std.specs.Prelude.{IfSome}
use Rattle.std.proofs.Common.{sym, subst}
use Rattle.mtn_history.specs.Marked.{IsCounted}
use Rattle.mtn_history.proofs.Remembering.{forgotten}
use Rattle.mtn_history.proofs.draft.Draft.restore.Goals as goal

pub invariant_of-self : goal.invariant_of-self
invariant_of-self g c = (
  forgotten (g.K.Keeper.contents c.self.inside.keeper.now) c.args.pending c.new.result c.new.ensures.rosters c.new.ensures.log,
  subst (λ d. IfSome (g.K.Keeper.contents d.keeper.now) (IsCounted c.args.pending)) (sym c.self.view_is) c.requires.counted,
)
