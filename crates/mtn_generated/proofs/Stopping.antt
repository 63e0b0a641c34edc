-- What stops all.
use Rattle.std.proofs.Common.{◌≡◌, ℕ, zero, suc, ◌<◌, ◌≤◌, Bool, true, false, cond, List, length, Some, None, Err, refl, subst, arith, inl, inr}
use Rattle.std.specs.Prelude.{◌==◌}
use Rattle.std.proofs.lemmas.Bool.{cases_lt}
use Rattle.std.proofs.lemmas.Bool.Decides.{nat_tests}
use Rattle.mtn_base.specs.declared.refusal.Cause.TheVariants.{StoreNotEmpty}
use Rattle.mtn_generated.specs.Growing.{GrowthAnswer, Generates, Grows, Stop, Unless}
use Rattle.mtn_generated.specs.Growing.Stop.{Refused}
use Rattle.mtn_model.specs.State.{State}

pub stays : (f : List ℕ → List ℕ) (s : State) (m n : ℕ) (stop : Stop) → m ≤ n → Grows f s m (Err stop) → Grows f s n (Err stop)
stays f s m zero stop most is = subst (λ k. Grows f s k (Err stop)) (let none : m ≡ 0 = omega (arith, most) in none) is
stays f s m (suc n) stop most is = elim (cases_lt n m) [
  | inl last ↦ subst (λ k. Grows f s k (Err stop)) (let same : m ≡ suc n = omega (arith, last, most) in same) is
  | inr before ↦ (Err stop, stays f s m n stop before is, refl)
]

pub not_empty : (f : List ℕ → List ℕ) (n : ℕ) (s : State) (answer : GrowthAnswer) → 0 < length s.log → Generates f n s answer → answer ≡ Err (Refused (StoreNotEmpty (length s.log)))
not_empty f n s answer some is = by (length s.log == 0) refl is
  where
    by : (b : Bool) → (length s.log == 0) ≡ b → Unless (cond b None (Some (StoreNotEmpty (length s.log)))) (Grows f s n) answer → answer ≡ Err (Refused (StoreNotEmpty (length s.log)))
    by false e is = is
    by true e is = absurd (grind (arith, nat_tests))
