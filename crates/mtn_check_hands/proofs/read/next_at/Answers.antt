use Rattle.std.proofs.Common.{◌-◌, arith, subst}
use Rattle.std.specs.Prelude.{IfSome}
use Rattle.mtn_history.specs.Logs.{IsLogged}
use Rattle.mtn_check_hands.proofs.Kindred.{next_by_hand, next_by_log}
use Rattle.mtn_check_hands.proofs.read.next_at.Goals as goal

pub returns-in-Some-clause-found : goal.returns-in-Some-clause-found
returns-in-Some-clause-found g c = next_by_hand (g.K.Keeper.contents c.args.keeper.now) c.args.at (c.args.at - 1) c.args.hands.now c.in-Some.hand.now (omega (arith, c.if-at-eq0.false)) c.in-Some.ensures

pub returns-in-Some-2-clause-found : goal.returns-in-Some-2-clause-found
returns-in-Some-2-clause-found g c = next_by_log (g.K.Keeper.contents c.logged_at.new.keeper) c.args.at (c.args.at - 1) c.args.hands.now c.in-Some-2.entry (omega (arith, c.if-at-eq0.false))
    (subst (λ o. IfSome (g.K.Keeper.contents c.logged_at.new.keeper) (λ k. IfSome o (IsLogged k (c.args.at - 1)))) c.in-Some-2.is c.in_ok-entry.ensures.found)
