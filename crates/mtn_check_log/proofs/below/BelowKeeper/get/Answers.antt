use Rattle.std.proofs.Common.{subst}
use Rattle.mtn_ports.specs.Kept.{Stays}
use Rattle.mtn_check_log.specs.Below.{told_below}
use Rattle.mtn_check_log.proofs.Showing.{stays_shown}
use Rattle.mtn_check_log.proofs.below.BelowKeeper.get.Goals as goal

pub returns-clause-stays : goal.returns-clause-stays
returns-clause-stays g c = subst (λ k. Stays (told_below g.K.Keeper.contents g.N.Behind.count) g.K.Keeper.leaves g.K.Keeper.faults k c.get_shown.new.keeper) c.self.view_is (stays_shown g.K.Keeper.contents g.K.Keeper.leaves g.K.Keeper.faults g.N.Behind.count _ _ c.get_shown.ensures.stays)
