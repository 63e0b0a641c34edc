-- One more flag.
use Rattle.std.specs.Prelude.{Contains}
use Rattle.std.proofs.Common.{◌≡◌, ℕ, ◌≢◌, ◌↔◌, ◌-◌, ◌<◌, List, [], ◌∷◌, ◌++◌, take, ◌⊎◌, Bool, true, false, length, sym, ◌∙◌, inl, inr, arith, subst, ⊎_elim, get_or-set_same, get_or-set_other}
use Rattle.std.proofs.Math.ListN.{set}
use Rattle.std.proofs.lemmas.List.{get_or_past, take-append-le}
use Rattle.std.proofs.Math.Seq.{take-length}
use Rattle.std.proofs.Math.Decide.{ℕ_discrete}
use Rattle.std.proofs.lemmas.Bool.{false≢true}
use Rattle.mtn_ancestry.specs.Sets.{IsFlagged}
use Rattle.mtn_ancestry.proofs.Members.{Contains-nil, Contains-cases, Contains-head, Contains-later}

pub flag_here : (flags : List Bool) (i : ℕ) → i < length flags → IsFlagged (set flags i true) i
flag_here flags i h = get_or-set_same flags i true false h

pub flag_kept : (flags : List Bool) (i x : ℕ) → i < length flags → IsFlagged flags x → IsFlagged (set flags i true) x
flag_kept flags i x h f =
    elim (ℕ_discrete x i) [
      | yes e ↦ subst (IsFlagged (set flags i true)) (sym e) (flag_here flags i h)
      | no n ↦ get_or-set_other flags i x true false n ∙ f
    ]

pub flag_cases : (flags : List Bool) (i x : ℕ) → i < length flags → IsFlagged (set flags i true) x → IsFlagged flags x ⊎ (i ≡ x)
flag_cases flags i x h f =
    elim (ℕ_discrete x i) [
      | yes e ↦ inr (sym e)
      | no n ↦ inl (sym (get_or-set_other flags i x true false n) ∙ f)
    ]

-- a flag is among the flags
pub flag_within : (flags : List Bool) (x : ℕ) → IsFlagged flags x → x < length flags
flag_within flags x f =
    elim (ℕ_discrete (length flags - x) 0) [
      | yes e ↦ absurd (false≢true (sym (get_or_past flags x false (omega arith)) ∙ f))
      | no n ↦ omega arith
    ]

pub after_none : (flags : List Bool) (x : ℕ) → (IsFlagged flags x → IsFlagged flags x ⊎ Contains [] x) × (IsFlagged flags x ⊎ Contains [] x → IsFlagged flags x)
after_none flags x = (inl, ⊎_elim (λ f. f) (λ c. absurd (Contains-nil c)))

pub after_one : (flags new : List Bool) (p x : ℕ) → p < length flags → new ≡ set flags p true →
    (IsFlagged new x → IsFlagged flags x ⊎ Contains (p ∷ []) x) × (IsFlagged flags x ⊎ Contains (p ∷ []) x → IsFlagged new x)
after_one flags new p x h e = (
  λ f. ⊎_elim inl (λ d. inr (subst (Contains (p ∷ [])) d (Contains-head p []))) (flag_cases flags p x h (subst (λ l. IsFlagged l x) e f)),
  λ s. subst (λ l. IsFlagged l x) (sym e) (⊎_elim (flag_kept flags p x h) (λ c. subst (IsFlagged (set flags p true)) (Contains-one p x c) (flag_here flags p h)) s),
)
  where
    Contains-one : (p x : ℕ) → Contains (p ∷ []) x → p ≡ x
    Contains-one p x c = ⊎_elim (λ d. d) (λ d. absurd (Contains-nil d)) (Contains-cases p [] x c)

pub after_two : (flags mid new : List Bool) (p q x : ℕ) → p < length flags → q < length mid → mid ≡ set flags p true → new ≡ set mid q true →
    (IsFlagged new x → IsFlagged flags x ⊎ Contains (p ∷ q ∷ []) x) × (IsFlagged flags x ⊎ Contains (p ∷ q ∷ []) x → IsFlagged new x)
after_two flags mid new p q x h k e d =
    let one = after_one flags mid p x h e in
    let two = after_one mid new q x k d in (
      λ f. ⊎_elim
          (λ g. ⊎_elim inl (λ c. inr (⊎_elim (λ a. subst (Contains (p ∷ q ∷ [])) a (Contains-head p (q ∷ []))) (λ b. absurd (Contains-nil b)) (Contains-cases p [] x c))) (one.0 g))
          (λ c. inr (Contains-later p (q ∷ []) c)) (two.0 f),
      ⊎_elim (λ f. two.1 (inl (one.1 (inl f))))
          (λ c. ⊎_elim (λ a. two.1 (inl (one.1 (inr (subst (Contains (p ∷ [])) a (Contains-head p [])))))) (λ b. two.1 (inr b)) (Contains-cases p (q ∷ []) x c)),
    )

-- what a write leaves
pub written_here : (flags : List Bool) (i : ℕ) (b : Bool) → i < length flags → IsFlagged (set flags i b) i ↔ (b ≡ true)
written_here flags i b h = (λ f. sym (get_or-set_same flags i b false h) ∙ f, λ e. get_or-set_same flags i b false h ∙ e)

pub written_other : (flags : List Bool) (i : ℕ) (b : Bool) (x : ℕ) → x ≢ i → IsFlagged (set flags i b) x ↔ IsFlagged flags x
written_other flags i b x n = (λ f. sym (get_or-set_other flags i x b false n) ∙ f, λ f. get_or-set_other flags i x b false n ∙ f)

-- what a write over the whole leaves is what was written
pub whole : (n : ℕ) (new rest : List Bool) → n ≡ length new → take n (new ++ rest) ≡ new
whole n new rest e = subst (λ m. take m (new ++ rest) ≡ new) (sym e) (take-append-le (length new) new rest (omega arith) ∙ take-length new)
