-- Errors on the way: what they show, and that over a state none is damage.
use Rattle.std.specs.Prelude.{IfErr, IfSome}
use Rattle.std.proofs.Common.{◌≡◌, ℕ, List, Option, Some, None, Result, Ok, Err, sym, subst}
use Rattle.mtn_history.specs.Errors.{IfDamage}
use Rattle.mtn_history.specs.Stands.{IsFounded}
use Rattle.mtn_history.specs.declared.errors.Damage.{Damage}
use Rattle.mtn_history.specs.declared.errors.StoreError.{StoreError}
use Rattle.mtn_history.specs.declared.errors.StoreError.TheVariants.{NoMemory}
use Rattle.mtn_history.specs.declared.pending.Pending.{Pending}
use Rattle.mtn_history.proofs.Founding.{back}
use Rattle.mtn_model.specs.State.{State}
use Rattle.mtn_model.specs.Table.{Contents}
use Rattle.mtn_ports.specs.Kept.{Same, with_all}
use Rattle.mtn_put_certs.proofs.LoggedLemmas.{as_damage}
use Rattle.mtn_sending.specs.Sending.{Gives}

-- an error that is no damage
pub gives_err : {X : Type 0} (r : Result X StoreError) (e : StoreError) (P : X → Type 0) → r ≡ Err e → IfDamage e (λ _. ⊥) → Gives r P
gives_err r e P is none = subst (λ x. Gives x P) (sym is) none

pub gives_ok : {X : Type 0} (r : Result X StoreError) (x : X) (P : X → Type 0) → r ≡ Ok x → P x → Gives r P
gives_ok r x P is fact = subst (λ y. Gives y P) (sym is) fact

-- what an error shows of the records that are told
abbrev pub Shows : {X : Type 0} → Option Contents → Pending → Result X StoreError → (Contents → Damage → Type 0) → Type 0
Shows told p r Q = IfSome told (λ c. IfErr r (λ y. IfDamage y (Q (with_all c p.batch))))

pub shows : {X : Type 0} (told : Option Contents) (p q : Pending) (r : Result X StoreError) (e : StoreError) (P Q : Contents → Damage → Type 0) → r ≡ Err e → q ≡ p → ((c : Contents) (d : Damage) → P c d → Q c d) →
    IfSome told (λ c. IfDamage e (P (with_all c q.batch))) → Shows told p r Q
shows None p q r e P Q is same leads fact = tt
shows {X} (Some c) p q r e P Q is same leads fact =
    subst (λ (x : Result X StoreError). IfErr x (λ y. IfDamage y (Q (with_all c p.batch)))) (sym is)
    (as_damage e (P (with_all c p.batch)) (Q (with_all c p.batch)) (leads (with_all c p.batch)) (subst (λ (z : Pending). IfDamage e (P (with_all c z.batch))) same fact))

-- want of memory shows nothing
pub wants : {X : Type 0} (told : Option Contents) (p : Pending) (r : Result X StoreError) (Q : Contents → Damage → Type 0) → r ≡ Err NoMemory → Shows told p r Q
wants None p r Q is = tt
wants {X} (Some c) p r Q is = subst (λ (x : Result X StoreError). IfErr x (λ y. IfDamage y (Q (with_all c p.batch)))) (sym is) tt

-- a state that is told now, with what was pending, was told before
pub earlier : (f : List ℕ → List ℕ) (old new : Option Contents) (p q : Pending) (s : State) → Same old new → q ≡ p → IsFounded f new p s → IsFounded f old q s
earlier f old new p q s same is d = subst (λ z. IsFounded f old z s) (sym is) (back f old new p s same d)

-- more of a value, where there is one
pub gives_more : {X : Type 0} (r : Result X StoreError) (P Q : X → Type 0) → ((x : X) → P x → Q x) → Gives r P → Gives r Q
gives_more (Ok x) P Q leads fact = leads x fact
gives_more (Err e) P Q leads fact = fact
