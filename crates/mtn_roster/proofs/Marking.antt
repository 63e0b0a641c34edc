-- Marks on the ways up.
use Rattle.std.proofs.Common.{◌≡◌, ℕ, zero, suc, ◌+◌, ◌<◌, Bool, true, false, List, length, get_or, set, sym, ◌∙◌, ap, subst, arith, inl, inr, get_or-set_same, get_or-set_other}
use Rattle.std.proofs.lemmas.Bool.{cases_lt}
use mathlib.Core.Logic.{dite}
use native.Mathlib.Decide.{ℕ_discrete}
use Rattle.mtn_roster.specs.Building.{climbed, Leads, MarkedLead}

pub climbed-add : (ups : List ℕ) (m n k : ℕ) → climbed ups (m + n) k ≡ climbed ups n (climbed ups m k)
climbed-add ups zero n k = let e : zero + n ≡ n = omega arith in ap (λ x. climbed ups x k) e
climbed-add ups (suc m) n k = let e : suc m + n ≡ suc (m + n) = omega arith in ap (λ x. climbed ups x k) e ∙ climbed-add ups m n (get_or ups k 0)

-- one more step
pub climbed-more : (ups : List ℕ) (n k at up : ℕ) → at ≡ climbed ups n k → up ≡ get_or ups at 0 → up ≡ climbed ups (n + 1) k
climbed-more ups n k at up is step = step ∙ ap (λ j. get_or ups j 0) is ∙ sym (climbed-add ups n 1 k)

-- a way from further up
pub leads_from : (ups : List ℕ) (root k m : ℕ) → Leads ups root (climbed ups m k) → Leads ups root k
leads_from ups root k m l = (m + l.0, climbed-add ups m l.0 k ∙ l.1)

-- the way goes on from the next place
pub leads_on : (ups : List ℕ) (root k up : ℕ) → get_or ups root 0 ≡ root → up ≡ get_or ups k 0 → Leads ups root k → Leads ups root up
leads_on ups root k up top step l = go l.0 l.1
  where
    go : (n : ℕ) → climbed ups n k ≡ root → Leads ups root up
    go zero h = (zero, step ∙ ap (λ j. get_or ups j 0) h ∙ top)
    go (suc n) h = (n, ap (climbed ups n) step ∙ h)

-- one more mark
pub kept_marked : (marked : List Bool) (at k : ℕ) → at < length marked → get_or marked k false ≡ true → get_or (set marked at true) k false ≡ true
kept_marked marked at k low h = dite (ℕ_discrete k at)
    (λ is. ap (λ (j : ℕ). get_or (set marked at true) j false) is ∙ get_or-set_same marked at true false low)
    (λ ne. get_or-set_other marked at k true false ne ∙ h)

pub lead_marked : (ups : List ℕ) (root : ℕ) (marked : List Bool) (at : ℕ) → Leads ups root at → MarkedLead ups root marked → MarkedLead ups root (set marked at true)
lead_marked ups root marked at l was k h = dite (ℕ_discrete k at)
    (λ is. subst (Leads ups root) (sym is) l)
    (λ ne. was k (sym (get_or-set_other marked at k true false ne) ∙ h))

-- each of the first places, and one more
pub lead_more : (ups : List ℕ) (root i : ℕ) → ((k : ℕ) → k < i → Leads ups root k) → Leads ups root i → (k : ℕ) → k < i + 1 → Leads ups root k
lead_more ups root i was l k low = elim (cases_lt k i) [
  | inl lt ↦ was k lt
  | inr ge ↦ let e : i ≡ k = omega arith in subst (Leads ups root) e l
]
