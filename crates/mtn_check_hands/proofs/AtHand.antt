-- What is at hand, after some steps.
use Rattle.std.proofs.Common.{⊎_elim, inl, inr, ℕ}
use Rattle.mtn_check_records.specs.declared.hand.Hand.{Hand}
use Rattle.mtn_check_hands.specs.Reading.{AreOf, AreWith}
use Rattle.mtn_check_hands.specs.declared.hands.Hands.{Hands}

pub with_others : (old met added left new : Hands) (at : ℕ) (hand : Hand) → AreOf old met → AreWith met at hand added → AreOf added left → AreOf left new → AreWith old at hand new
with_others old met added left new at hand less with fewer least p other has = ⊎_elim inl (λ was. inr (less p other was)) (with p other (fewer p other (least p other has)))
