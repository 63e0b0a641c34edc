use Rattle.std.proofs.Common.{sym, subst}
use Rattle.mtn_check_hands.specs.Reading.{AreOf}
use Rattle.mtn_check_hands.proofs.AtHand.{with_others}
use Rattle.mtn_check_hands.proofs.hands.Hands.put.Goals as goal
use Rattle.mtn_check_hands.proofs.hands.Hands.put.Goals.{then-len-gt-MAX_RECENT+in_ok-retire, else-len-gt-MAX_RECENT}

pub returns : goal.returns
returns c =
    let kept : AreOf c.add.new.self c.if-len-gt-MAX_RECENT.self =
    elim c.if-len-gt-MAX_RECENT.branch [
      | then-len-gt-MAX_RECENT+in_ok-retire w ↦ subst (AreOf c.add.new.self) (sym w.self-is) w.retire.ensures
      | else-len-gt-MAX_RECENT w ↦ subst (AreOf c.add.new.self) (sym w.self-is) (λ p hand has. has)
    ] in
    with_others c.args.self.now c.meet_all.new.self c.add.new.self c.if-len-gt-MAX_RECENT.self c.make_room.new.self c.args.at c.args.hand c.meet_all.ensures c.add.ensures kept c.make_room.ensures
