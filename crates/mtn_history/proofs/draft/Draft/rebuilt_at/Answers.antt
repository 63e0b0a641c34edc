use Rattle.std.specs.Prelude.{IfSome}
use Rattle.std.proofs.Common.{refl, subst, arith}
use Rattle.mtn_ports.specs.Kept.{with_all}
use Rattle.mtn_history.specs.Errors.{IfDamage}
use Rattle.mtn_history.specs.Rosters.{IsRosterHeld}
use Rattle.mtn_history.specs.declared.pending.Pending.{Pending}
use Rattle.mtn_history.proofs.AskingLemmas.{asks_on, asks_fewer}
use Rattle.mtn_history.proofs.RosterLemmas.{asks_along, is_rebuilt, unrebuilt_bad}
use Rattle.mtn_history.proofs.draft.Draft.rebuilt_at.Goals as goal

pub returns-in-Ok-clause-along : goal.returns-in-Ok-clause-along
returns-in-Ok-clause-along g c =
    asks_along (g.K.Keeper.contents c.chain_or_shown.new.self.keeper.now) c.args.self.now.pending.batch c.args.at (g.K.Keeper.reads c.args.self.now.keeper.now) (g.K.Keeper.reads c.chain_or_shown.new.self.keeper.now) c.in_ok-chain.chain
    c.in_ok-chain.ensures.read c.in_ok-chain.ensures.few

pub returns-in-Ok-clause-rebuilt : goal.returns-in-Ok-clause-rebuilt
returns-in-Ok-clause-rebuilt g c =
    is_rebuilt (g.K.Keeper.contents c.chain_or_shown.new.self.keeper.now) c.args.self.now.pending.batch c.args.at c.in_ok-chain.chain c.in-Ok.rebuilt c.in_ok-chain.ensures.read c.in-Ok.ensures.rebuilt

pub returns-in-Err-Bad-clause-asks : goal.returns-in-Err-Bad-clause-asks
returns-in-Err-Bad-clause-asks g c =
    asks_on g.K.Keeper.contents g.K.Keeper.leaves g.K.Keeper.faults g.K.Keeper.reads 16 1 c.args.self.now c.chain_or_shown.new.self _
    (asks_fewer g.K.Keeper.contents g.K.Keeper.leaves g.K.Keeper.faults g.K.Keeper.reads 17 16 c.args.self.now c.chain_or_shown.new.self c.in_ok-chain.ensures.asks (omega (arith, c.in_ok-chain.ensures.few, c.in_ok-chain.ensures.short))) c.roster_held.ensures.asks

pub returns-in-Err-Bad-clause-damaged : goal.returns-in-Err-Bad-clause-damaged
returns-in-Err-Bad-clause-damaged g c =
    unrebuilt_bad (g.K.Keeper.contents c.chain_or_shown.new.self.keeper.now) (g.K.Keeper.contents c.roster_held.new.self.keeper.now) c.args.self.now.pending.batch c.args.at c.roster_held.result c.in_ok-chain.chain
    c.roster_held.ensures.asks.stays.same c.in_ok-chain.ensures.read
    ((rw c.in-Err-Bad.field-0-is at c.in-Err-Bad.ensures.bad) refl)
    (subst (λ (p : Pending). IfSome (g.K.Keeper.contents c.roster_held.new.self.keeper.now) (λ d. IfDamage c.roster_held.result (IsRosterHeld (with_all d p.batch) c.args.at))) c.in_ok-chain.ensures.asks.pending c.roster_held.ensures.damaged)
