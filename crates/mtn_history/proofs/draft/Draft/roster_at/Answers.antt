use Rattle.std.specs.Prelude.{IfSome}
use Rattle.std.proofs.Common.{subst}
use Rattle.mtn_ports.specs.Kept.{with_all}
use Rattle.mtn_history.specs.Rosters.{Rebuilds}
use Rattle.mtn_history.proofs.MarkedLemmas.{marked_is, roster_found}
use Rattle.mtn_history.proofs.draft.Draft.roster_at.Goals as goal

pub returns-in-Some-clause-found : goal.returns-in-Some-clause-found
returns-in-Some-clause-found g c f s d lt =
    marked_is f (g.K.Keeper.contents c.args.self.now.keeper.now) c.args.self.now.pending s d c.args.at c.in-Some.rebuilt.value.entries c.in-Some.rebuilt.value.roster c.in-Some.rebuilt.value.depth lt
    (subst (λ o. IfSome (g.K.Keeper.contents c.args.self.now.keeper.now) (λ x. IfSome o (λ r. Rebuilds (with_all x c.args.self.now.pending.batch) c.args.at r.value))) c.in-Some.is c.in_ok-rebuilt.ensures)

pub returns-in-None-clause-found : goal.returns-in-None-clause-found
returns-in-None-clause-found g c f s d lt =
    roster_found f (g.K.Keeper.contents c.read_roster_at.new.self.keeper.now) c.args.self.now.pending s d c.args.at c.read_roster_at.result (λ r. r.value) c.read_roster_at.ensures.rebuilt lt
