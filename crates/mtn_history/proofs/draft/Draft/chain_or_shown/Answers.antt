use Rattle.std.specs.Prelude.{IfSome}
use Rattle.std.proofs.Common.{subst}
use Rattle.mtn_ports.specs.Kept.{with_all}
use Rattle.mtn_history.specs.Errors.{IfDamage}
use Rattle.mtn_history.specs.Rosters.{IsRosterHeld, IsWalkOf}
use Rattle.mtn_history.specs.declared.pending.Pending.{Pending}
use Rattle.mtn_history.proofs.AskingLemmas.{asks_on}
use Rattle.mtn_history.proofs.RosterLemmas.{unrebuilt_none}
use Rattle.mtn_history.proofs.draft.Draft.chain_or_shown.Goals as goal

pub returns-in-None-clause-asks : goal.returns-in-None-clause-asks
returns-in-None-clause-asks g c = asks_on g.K.Keeper.contents g.K.Keeper.leaves g.K.Keeper.faults g.K.Keeper.reads 16 1 c.args.self.now c.chain.new.self _ c.in_ok-chain.ensures.asks c.roster_held.ensures.asks

pub returns-in-None-clause-damaged : goal.returns-in-None-clause-damaged
returns-in-None-clause-damaged g c =
    unrebuilt_none (g.K.Keeper.contents c.chain.new.self.keeper.now) (g.K.Keeper.contents c.roster_held.new.self.keeper.now) c.args.self.now.pending.batch c.args.at c.args.top c.args.beside.now c.roster_held.result c.roster_held.ensures.asks.stays.same
    (subst (λ o. IfSome (g.K.Keeper.contents c.chain.new.self.keeper.now) (λ d. IsWalkOf (with_all d c.args.self.now.pending.batch) c.args.at c.args.top c.args.beside.now o)) c.in-None.is c.in_ok-chain.ensures.read)
    (subst (λ (p : Pending). IfSome (g.K.Keeper.contents c.roster_held.new.self.keeper.now) (λ d. IfDamage c.roster_held.result (IsRosterHeld (with_all d p.batch) c.args.at))) c.in_ok-chain.ensures.asks.pending c.roster_held.ensures.damaged)
