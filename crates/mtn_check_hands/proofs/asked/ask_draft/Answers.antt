use Rattle.std.proofs.Common.{sym, subst}
use Rattle.mtn_check_hands.specs.Reading.{IsAnswer, front_with}
use Rattle.mtn_check_hands.specs.declared.asked.Answer.TheVariants.{Apart, Held}
use Rattle.mtn_check_hands.proofs.asked.ask_draft.Goals as goal

pub returns-in_ok-hand_of-in-Kept-clause-found : goal.returns-in_ok-hand_of-in-Kept-clause-found
returns-in_ok-hand_of-in-Kept-clause-found g c = λ f s d.
    subst (λ a. IsAnswer (front_with s.log d.stands.history d.stands.kept) a (Held c.in_ok-hand_of-in-Kept.field-0)) (sym c.in-Kept.is) (c.in_ok-hand_of-in-Kept.ensures.found f s d)

pub returns-in_ok-only_left-in-Between-clause-found : goal.returns-in_ok-only_left-in-Between-clause-found
returns-in_ok-only_left-in-Between-clause-found g c = λ f s d.
    subst (λ a. IsAnswer (front_with s.log d.stands.history d.stands.kept) a (Apart c.in_ok-only_left-in-Between.only_left c.in_ok-only_left-in-Between.only_right)) (sym c.in-Between.is)
    (c.in_ok-only_left-in-Between.ensures.lefts f s d, c.in_ok-only_left-in-Between.ensures.rights f s d)
