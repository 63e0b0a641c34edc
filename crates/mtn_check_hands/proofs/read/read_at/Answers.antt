use Rattle.std.proofs.Common.{◌≡◌, subst}
use Rattle.std.specs.Prelude.{IfSome}
use Rattle.mtn_ports.proofs.KeptLemmas.{stays_trans}
use Rattle.mtn_check_records.specs.Reading.{ids_of}
use Rattle.mtn_check_hands.specs.Reading.{AreKinAt, AreRecordsAt, IsNextAt}
use Rattle.mtn_check_hands.specs.declared.kin.Kin.{Kin}
use Rattle.mtn_check_hands.proofs.Positions.{hand_read, told_read}
use Rattle.mtn_check_hands.proofs.read.read_at.Goals as goal

pub returns-in_err-records-clause-stays : goal.returns-in_err-records-clause-stays
returns-in_err-records-clause-stays g c = stays_trans g.K.Keeper.contents g.K.Keeper.leaves g.K.Keeper.faults _ _ _ c.next_at.ensures.stays c.records_at.ensures.stays

pub returns-in_default-2-clause-stays : goal.returns-in_default-2-clause-stays
returns-in_default-2-clause-stays g c = stays_trans g.K.Keeper.contents g.K.Keeper.leaves g.K.Keeper.faults _ _ _ c.next_at.ensures.stays c.records_at.ensures.stays

pub returns-in_err-kin-clause-stays : goal.returns-in_err-kin-clause-stays
returns-in_err-kin-clause-stays g c = stays_trans g.K.Keeper.contents g.K.Keeper.leaves g.K.Keeper.faults _ _ _ (stays_trans g.K.Keeper.contents g.K.Keeper.leaves g.K.Keeper.faults _ _ _ c.next_at.ensures.stays c.records_at.ensures.stays) c.kin_at.ensures.stays

pub returns-in_default-3-clause-stays : goal.returns-in_default-3-clause-stays
returns-in_default-3-clause-stays g c = stays_trans g.K.Keeper.contents g.K.Keeper.leaves g.K.Keeper.faults _ _ _ (stays_trans g.K.Keeper.contents g.K.Keeper.leaves g.K.Keeper.faults _ _ _ c.next_at.ensures.stays c.records_at.ensures.stays) c.kin_at.ensures.stays

pub returns-in_err-with_roster-clause-stays : goal.returns-in_err-with_roster-clause-stays
returns-in_err-with_roster-clause-stays g c = stays_trans g.K.Keeper.contents g.K.Keeper.leaves g.K.Keeper.faults _ _ _ (stays_trans g.K.Keeper.contents g.K.Keeper.leaves g.K.Keeper.faults _ _ _ c.next_at.ensures.stays c.records_at.ensures.stays) c.kin_at.ensures.stays

pub returns-clause-stays : goal.returns-clause-stays
returns-clause-stays g c = stays_trans g.K.Keeper.contents g.K.Keeper.leaves g.K.Keeper.faults _ _ _ (stays_trans g.K.Keeper.contents g.K.Keeper.leaves g.K.Keeper.faults _ _ _ c.next_at.ensures.stays c.records_at.ensures.stays) c.kin_at.ensures.stays

pub returns-clause-found : goal.returns-clause-found
returns-clause-found g c =
    let one = g.K.Keeper.contents c.next_at.new.keeper in
    let two = g.K.Keeper.contents c.records_at.new.keeper in
    let told = g.K.Keeper.contents c.kin_at.new.keeper in
    told_read one two told c.args.at c.args.hands.now c.in-Some-2.records c.in-Some.next c.in-Some-3.kin c.in_ok-with_roster.field-0 c.records_at.ensures.stays.same c.kin_at.ensures.stays.same
    (subst (λ o. IfSome one (λ k. IfSome o (IsNextAt k c.args.at c.args.hands.now))) c.in-Some.is c.in_ok-next.ensures.found)
    (subst (λ o. IfSome two (λ k. IfSome o (AreRecordsAt k c.args.at))) c.in-Some-2.is c.in_ok-records.ensures.found)
    (subst (λ o. IfSome told (λ k. IfSome o (AreKinAt k c.args.at c.args.hands.now))) c.in-Some-3.is c.in_ok-kin.ensures.found)
    (subst (λ o. IfSome o (λ (k : Kin). ids_of k.parents ≡ c.in-Some-2.records.mentions.parents)) c.in-Some-3.is c.in_ok-kin.ensures.named)
    c.in_ok-with_roster.ensures

pub returns-clause-hand : goal.returns-clause-hand
returns-clause-hand g c = hand_read c.args.at c.in-Some-2.records c.in-Some.next c.in-Some-3.kin c.in_ok-with_roster.field-0 c.in_ok-with_roster.ensures
