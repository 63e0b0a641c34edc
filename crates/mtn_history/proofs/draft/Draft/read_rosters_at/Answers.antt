use Rattle.std.proofs.Common.{subst, arith}
use Rattle.std.specs.Prelude.{IfSome}
use Rattle.mtn_ports.specs.Kept.{with_all}
use Rattle.mtn_history.specs.Rosters.{IsWalk}
use Rattle.mtn_history.specs.declared.pending.Pending.{Pending}
use Rattle.mtn_history.proofs.AskingLemmas.{asks_on, asks_fewer}
use Rattle.mtn_history.proofs.MeetingLemmas.{once_told}
use Rattle.mtn_history.proofs.draft.Draft.read_rosters_at.Goals as goal

pub returns-in_err-theirs-clause-asks : goal.returns-in_err-theirs-clause-asks
returns-in_err-theirs-clause-asks g c = asks_on g.K.Keeper.contents g.K.Keeper.leaves g.K.Keeper.faults g.K.Keeper.reads 16 17 c.args.self.now c.chain_or_shown.new.self _ (asks_fewer g.K.Keeper.contents g.K.Keeper.leaves g.K.Keeper.faults g.K.Keeper.reads 17 16 c.args.self.now c.chain_or_shown.new.self c.in_ok-ours.ensures.asks (omega (arith, c.in_ok-ours.ensures.few, c.in_ok-ours.ensures.short))) c.chain_or_shown-2.ensures.asks

pub returns-clause-asks : goal.returns-clause-asks
returns-clause-asks g c =
    asks_on g.K.Keeper.contents g.K.Keeper.leaves g.K.Keeper.faults g.K.Keeper.reads 16 17 c.args.self.now c.chain_or_shown.new.self _ (asks_fewer g.K.Keeper.contents g.K.Keeper.leaves g.K.Keeper.faults g.K.Keeper.reads 17 16 c.args.self.now c.chain_or_shown.new.self c.in_ok-ours.ensures.asks (omega (arith, c.in_ok-ours.ensures.few, c.in_ok-ours.ensures.short)))
    (asks_on g.K.Keeper.contents g.K.Keeper.leaves g.K.Keeper.faults g.K.Keeper.reads 16 1 c.chain_or_shown.new.self c.chain_or_shown-2.new.self _ (asks_fewer g.K.Keeper.contents g.K.Keeper.leaves g.K.Keeper.faults g.K.Keeper.reads 17 16 c.chain_or_shown.new.self c.chain_or_shown-2.new.self c.in_ok-theirs.ensures.asks (omega (arith, c.in_ok-theirs.ensures.few, c.in_ok-theirs.ensures.short))) c.make_rosters.ensures.asks)

pub returns-clause-once : goal.returns-clause-once
returns-clause-once g c =
    let first = g.K.Keeper.contents c.chain_or_shown.new.self.keeper.now in
    let second = g.K.Keeper.contents c.chain_or_shown-2.new.self.keeper.now in
    once_told first second (g.K.Keeper.contents c.make_rosters.new.self.keeper.now) c.args.self.now.pending.batch c.args.left c.args.right (g.K.Keeper.reads c.args.self.now.keeper.now) (g.K.Keeper.reads c.chain_or_shown.new.self.keeper.now)
    (g.K.Keeper.reads c.chain_or_shown-2.new.self.keeper.now) (g.K.Keeper.reads c.make_rosters.new.self.keeper.now) c.in_ok-ours.ours.records.items c.in_ok-theirs.theirs.records.items c.in_ok-ours.ours.end c.in_ok-theirs.theirs.end c.make_rosters.result
    c.chain_or_shown-2.ensures.asks.stays.same c.make_rosters.ensures.asks.stays.same c.in_ok-ours.ensures.read
    (subst (λ (p : Pending). IfSome second (λ d. IsWalk (with_all d p.batch) c.args.right c.args.left c.in_ok-ours.ours.records.items c.in_ok-theirs.theirs.records.items c.in_ok-theirs.theirs.end)) c.in_ok-ours.ensures.asks.pending
    (subst (λ l. IfSome second (λ d. IsWalk (with_all d c.chain_or_shown.new.self.pending.batch) c.args.right c.args.left l c.in_ok-theirs.theirs.records.items c.in_ok-theirs.theirs.end)) c.deref.ensures.value c.in_ok-theirs.ensures.read))
    c.in_ok-ours.ensures.few c.in_ok-theirs.ensures.few c.make_rosters.ensures.few
