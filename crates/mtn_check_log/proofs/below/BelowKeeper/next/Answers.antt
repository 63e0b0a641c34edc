use Rattle.std.proofs.Common.{subst}
use Rattle.mtn_ports.specs.Kept.{Stays}
use Rattle.mtn_check_log.specs.Below.{told_below}
use Rattle.mtn_check_log.proofs.Showing.{stays_shown, told_keyed_by}
use Rattle.mtn_check_log.proofs.below.BelowKeeper.next.Goals as goal

pub returns-then-table-eq2-clause-keyed : goal.returns-then-table-eq2-clause-keyed
returns-then-table-eq2-clause-keyed g c = told_keyed_by (g.K.Keeper.contents c.next.new.self) g.N.Behind.count c.next.result c.next.ensures.keyed

pub returns-then-table-eq2-clause-stays : goal.returns-then-table-eq2-clause-stays
returns-then-table-eq2-clause-stays g c = subst (λ k. Stays (told_below g.K.Keeper.contents g.N.Behind.count) g.K.Keeper.leaves g.K.Keeper.faults k c.next.new.self) c.self.view_is (stays_shown g.K.Keeper.contents g.K.Keeper.leaves g.K.Keeper.faults g.N.Behind.count _ _ c.next.ensures.stays)
