-- What a generated history is answered with.
use Rattle.std.proofs.Common.{◌≡◌, ℕ, Ok, Err, refl, sym, ◌∙◌, subst}
use Rattle.mtn_generated.specs.Growing.{GrowthAnswer}
use Rattle.mtn_generated.specs.Growing.Stop.{Refused, Conflicting}
use Rattle.mtn_model.specs.Outcome.{Outcome}
use Rattle.mtn_model.specs.State.{State}
use Rattle.mtn_step.specs.Step.{Generated}

one_answered : (n : ℕ) (s : State) (o p : Outcome) (answer : GrowthAnswer) → Generated n s answer o → Generated n s answer p → o ≡ p
one_answered n s o p (Ok g) is also = is ∙ sym also
one_answered n s o p (Err (Refused cause)) is also = is ∙ sym also
one_answered n s o p (Err (Conflicting left right conflicts)) is also = is ∙ sym also

pub one_generated : (n : ℕ) (s : State) (o p : Outcome) (a b : GrowthAnswer) → a ≡ b → Generated n s a o → Generated n s b p → o ≡ p
one_generated n s o p a b same is also = one_answered n s o p a is (subst (λ x. Generated n s x p) (sym same) also)

pub some_generated : (n : ℕ) (s : State) (answer : GrowthAnswer) → (o : Outcome) × Generated n s answer o
some_generated n s (Ok g) = (_, refl)
some_generated n s (Err (Refused cause)) = (_, refl)
some_generated n s (Err (Conflicting left right conflicts)) = (_, refl)
