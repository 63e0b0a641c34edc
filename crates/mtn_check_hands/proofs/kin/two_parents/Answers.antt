use Rattle.std.proofs.Common.{subst}
use Rattle.std.specs.Prelude.{IfSome}
use Rattle.mtn_ports.proofs.KeptLemmas.{stays_trans}
use Rattle.mtn_check_hands.specs.Reading.{IsHandAt}
use Rattle.mtn_check_hands.proofs.Kindred.{ApartAt, both_are}
use Rattle.mtn_check_hands.proofs.kin.two_parents.Goals as goal

pub returns-in_err-second-clause-stays : goal.returns-in_err-second-clause-stays
returns-in_err-second-clause-stays g c = stays_trans g.K.Keeper.contents g.K.Keeper.leaves g.K.Keeper.faults _ _ _ c.hand_at.ensures.stays c.hand_at-2.ensures.stays

pub returns-in_default-2-clause-stays : goal.returns-in_default-2-clause-stays
returns-in_default-2-clause-stays g c = stays_trans g.K.Keeper.contents g.K.Keeper.leaves g.K.Keeper.faults _ _ _ c.hand_at.ensures.stays c.hand_at-2.ensures.stays

pub returns-in_err-apart-clause-stays : goal.returns-in_err-apart-clause-stays
returns-in_err-apart-clause-stays g c = stays_trans g.K.Keeper.contents g.K.Keeper.leaves g.K.Keeper.faults _ _ _ (stays_trans g.K.Keeper.contents g.K.Keeper.leaves g.K.Keeper.faults _ _ _ c.hand_at.ensures.stays c.hand_at-2.ensures.stays) c.apart_at.ensures.stays

pub returns-in_default-3-clause-stays : goal.returns-in_default-3-clause-stays
returns-in_default-3-clause-stays g c = stays_trans g.K.Keeper.contents g.K.Keeper.leaves g.K.Keeper.faults _ _ _ (stays_trans g.K.Keeper.contents g.K.Keeper.leaves g.K.Keeper.faults _ _ _ c.hand_at.ensures.stays c.hand_at-2.ensures.stays) c.apart_at.ensures.stays

pub returns-in_err-kin-clause-stays : goal.returns-in_err-kin-clause-stays
returns-in_err-kin-clause-stays g c = stays_trans g.K.Keeper.contents g.K.Keeper.leaves g.K.Keeper.faults _ _ _ (stays_trans g.K.Keeper.contents g.K.Keeper.leaves g.K.Keeper.faults _ _ _ c.hand_at.ensures.stays c.hand_at-2.ensures.stays) c.apart_at.ensures.stays

pub returns-clause-stays : goal.returns-clause-stays
returns-clause-stays g c = stays_trans g.K.Keeper.contents g.K.Keeper.leaves g.K.Keeper.faults _ _ _ (stays_trans g.K.Keeper.contents g.K.Keeper.leaves g.K.Keeper.faults _ _ _ c.hand_at.ensures.stays c.hand_at-2.ensures.stays) c.apart_at.ensures.stays

pub returns-clause-found : goal.returns-clause-found
returns-clause-found g c =
    let one = g.K.Keeper.contents c.hand_at.new.keeper in
    let two = g.K.Keeper.contents c.hand_at-2.new.keeper in
    let told = g.K.Keeper.contents c.apart_at.new.keeper in
    both_are one two told c.args.at c.args.left c.args.right c.args.hands.now c.in-Some.first c.in-Some-2.second c.in-Some-3.apart.0 c.in-Some-3.apart.1 c.in_ok-kin.kin c.hand_at-2.ensures.stays.same c.apart_at.ensures.stays.same
    c.in_ok-kin.ensures.parents c.in_ok-kin.ensures.records c.in_ok-kin.ensures.left c.in_ok-kin.ensures.right
    (subst (λ o. IfSome one (λ k. IfSome o (IsHandAt k c.args.at c.args.hands.now c.args.left))) c.in-Some.is c.in_ok-first.ensures.found)
    (subst (λ o. IfSome two (λ k. IfSome o (IsHandAt k c.args.at c.args.hands.now c.args.right))) c.in-Some-2.is c.in_ok-second.ensures.found)
    (subst (λ o. IfSome told (λ k. IfSome o (λ u. ApartAt k c.args.at c.args.left c.args.right u.0 u.1))) c.in-Some-3.is c.in_ok-apart.ensures.found)
