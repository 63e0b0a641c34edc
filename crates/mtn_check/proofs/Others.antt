-- Where different keys are as many as a list is long, the list has no other.
use Rattle.std.specs.List.{Contains, remove}
use Rattle.std.proofs.Common.{◌≡◌, ◌<◌, ◌≤◌, ◌+◌, ◌-◌, ⊎_elim, ℕ, zero, suc, List, length, Some, get_or, sym, ap, ◌∙◌, arith}
use Rattle.std.proofs.lemmas.List.{get_or_default}
use Rattle.std.proofs.lemmas.Bool.{cases_eq, cases_order}
use Rattle.std.proofs.lemmas.List.Edits.{length-remove, get_or-remove_below, get_or-remove_above}
use Rattle.mtn_model.specs.Table.{Contents, body_at}
use Rattle.mtn_check.specs.Tables.{HasAtMost}

module _ {A : Type 0} (keys : List A) (at : ℕ) (within : at < length keys) where
  -- what stands at another place is there still when one is taken away
  pub still_there : (x : A) (k : ℕ) → k < length keys → get_or keys k x ≡ x → (k ≡ at → ⊥) → Contains (remove keys at) x
  still_there x k lt is other =
      let long = length-remove keys at within in
      ⊎_elim (λ e. absurd (other e)) (λ r. ⊎_elim
      (λ below. (k, omega (arith, below, within, long), get_or-remove_below keys at x k below within ∙ is))
      (λ above.
      let same : k - 1 + 1 ≡ k = omega (arith, above) in
      (k - 1, omega (arith, above, lt, long), get_or-remove_above keys at x (k - 1) (omega (arith, above)) within ∙ ap (λ n. get_or keys n x) same ∙ is)) r)
      (cases_order k at)

  pub same_place : (x y : A) (k : ℕ) → get_or keys k x ≡ x → get_or keys at y ≡ y → k ≡ at → x ≡ y
  same_place x y k is own e = sym is ∙ ap (λ n. get_or keys n x) e ∙ get_or_default keys at x y within ∙ own

-- so many different keys, all of which a list has
pub record AreIn {A : Type 0} (own : ℕ → A) (n : ℕ) (keys : List A) : Type 0 where
  pub apart : (q r : ℕ) → q < n → r < n → own q ≡ own r → q ≡ r
  pub each : (q : ℕ) → q < n → Contains keys (own q)

module _ {A : Type 0} (own : ℕ → A) where
  one_key_less : (n : ℕ) (keys : List A) → AreIn own (suc n) keys → (at : ℕ) → at < length keys → get_or keys at (own n) ≡ own n → AreIn own n (remove keys at)
  one_key_less n keys all at within last = record {
    apart = λ q r lt below e. all.apart q r (omega (arith, lt)) (omega (arith, below)) e;
    each = λ q lt.
        let one = all.each q (omega (arith, lt)) in
        still_there keys at within (own q) one.0 one.1 one.2
        (λ e. let same : q ≡ n = all.apart q n (omega (arith, lt)) (omega arith) (same_place keys at within (own q) (own n) one.0 one.2 last e) in omega (arith, lt, same));
  }

  pub none_other : (n : ℕ) (keys : List A) → length keys ≤ n → AreIn own n keys → (k : A) → Contains keys k → (q : ℕ) × (q < n) × (own q ≡ k)
  none_other zero keys short all k has = let lt = has.1 in absurd (omega (arith, short, lt))
  none_other (suc n) keys short all k has =
      let last = all.each n (omega arith) in
      let long = length-remove keys last.0 last.1 in
      ⊎_elim (λ e. (n, omega arith, sym (same_place keys last.0 last.1 k (own n) has.0 has.2 last.2 e)))
      (λ apart.
      let w = none_other n (remove keys last.0) (omega (arith, short, long)) (one_key_less n keys all last.0 last.1 last.2) k (still_there keys last.0 last.1 k has.0 has.1 has.2 apart) in
      let lt = w.1 in (w.0, omega (arith, lt), w.2))
      (cases_eq has.0 last.0)

-- a table that has no more records than so many, and so many under different keys, has these alone
pub none_besides : (table n : ℕ) (c : Contents) (own : ℕ → List ℕ) → ((q : ℕ) → q < n → (body : List ℕ) × (body_at c table (own q) ≡ Some body)) → ((q r : ℕ) → q < n → r < n → own q ≡ own r → q ≡ r) →
    HasAtMost table n c → (key body : List ℕ) → body_at c table key ≡ Some body → (q : ℕ) × (q < n) × (own q ≡ key)
none_besides table n c own held apart few key body at =
    none_other own n few.0 few.1 (record { apart = apart; each = λ q lt. let h = held q lt in few.2 (own q) h.0 h.1 }) key (few.2 key body at)
