use Rattle.std.proofs.Common.{subst}
use Rattle.std.specs.Prelude.{IfSome}
use Rattle.mtn_check_hands.specs.Reading.{IsHandAt}
use Rattle.mtn_check_hands.proofs.Kindred.{one_is}
use Rattle.mtn_check_hands.proofs.kin.one_parent.Goals as goal

pub returns-in_ok-kin_of_one-in-Some-clause-found : goal.returns-in_ok-kin_of_one-in-Some-clause-found
returns-in_ok-kin_of_one-in-Some-clause-found g c =
    let told = g.K.Keeper.contents c.hand_at.new.keeper in
    one_is told c.args.at c.args.place c.args.hands.now c.in-Some.hand c.in_ok-kin_of_one-in-Some.field-0 c.in_ok-kin_of_one-in-Some.ensures.parents c.in_ok-kin_of_one-in-Some.ensures.records
    (subst (λ o. IfSome told (λ k. IfSome o (IsHandAt k c.args.at c.args.hands.now c.args.place))) c.in-Some.is c.in_ok-hand.ensures.found)
