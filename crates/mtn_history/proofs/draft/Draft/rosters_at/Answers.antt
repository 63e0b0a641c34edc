use Rattle.std.specs.Prelude.{IfSome}
use Rattle.std.proofs.Common.{subst}
use Rattle.mtn_ports.specs.Kept.{with_all}
use Rattle.mtn_history.specs.Rosters.{Rebuilds}
use Rattle.mtn_history.proofs.Knowing.{told_back}
use Rattle.mtn_history.proofs.MarkedLemmas.{marked_is, roster_found}
use Rattle.mtn_history.proofs.MeetingLemmas.{once_right}
use Rattle.mtn_history.proofs.draft.Draft.rosters_at.Goals as goal

pub returns-in_ok-roster_at-in-Some-clause-found_left : goal.returns-in_ok-roster_at-in-Some-clause-found_left
returns-in_ok-roster_at-in-Some-clause-found_left g c f s d lt =
    marked_is f (g.K.Keeper.contents c.roster_at.new.self.keeper.now) c.args.self.now.pending s d c.args.left c.in-Some.one.value.entries c.in-Some.one.value.roster c.in-Some.one.value.depth lt
    (told_back (g.K.Keeper.contents c.args.self.now.keeper.now) (g.K.Keeper.contents c.roster_at.new.self.keeper.now) (λ x. Rebuilds (with_all x c.args.self.now.pending.batch) c.args.left c.in-Some.one.value) c.roster_at.ensures.asks.stays.same
    (subst (λ o. IfSome (g.K.Keeper.contents c.args.self.now.keeper.now) (λ x. IfSome o (λ r. Rebuilds (with_all x c.args.self.now.pending.batch) c.args.left r.value))) c.in-Some.is c.in_ok-one.ensures))

pub returns-in_ok-roster_at-in-Some-clause-once : goal.returns-in_ok-roster_at-in-Some-clause-once
returns-in_ok-roster_at-in-Some-clause-once g c =
    once_right (g.K.Keeper.contents c.roster_at.new.self.keeper.now) c.args.self.now.pending.batch c.args.left c.args.right (g.K.Keeper.reads c.args.self.now.keeper.now) (g.K.Keeper.reads c.roster_at.new.self.keeper.now) c.in_ok-roster_at-in-Some.ensures.along

pub returns-in-None-clause-found_left : goal.returns-in-None-clause-found_left
returns-in-None-clause-found_left g c f s d lt =
    roster_found f (g.K.Keeper.contents c.rosters_from.new.self.keeper.now) c.args.self.now.pending s d c.args.left c.rosters_from.result (λ r. r.0.value) c.rosters_from.ensures.left lt

pub returns-in-None-clause-found_right : goal.returns-in-None-clause-found_right
returns-in-None-clause-found_right g c f s d lt =
    roster_found f (g.K.Keeper.contents c.rosters_from.new.self.keeper.now) c.args.self.now.pending s d c.args.right c.rosters_from.result (λ r. r.1.value) c.rosters_from.ensures.right lt
