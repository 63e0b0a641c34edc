-- The rule by tests is the rule.
use Rattle.std.specs.Prelude.{IsTrue}
use Rattle.std.proofs.Common.{◌≡◌, ◌≢◌, ◌↔◌, ℕ, List, Bool, true, false, Some, refl, sym, subst, inl, inr, ⊎_elim}
use Rattle.mtn_mark_laws.specs.Rule.{Side, AllKnown, SomeUnknown, IsMarkByTests, IsMarkByRule}
use Rattle.mtn_mark_laws.specs.Rule.IsMarkByRule.{both_unlike, both_equal, left_knows, left_chosen, right_knows, right_chosen}
use Rattle.mtn_mark_laws.proofs.Local.{tell_known}

unknown : (marks lacked : List ℕ) → ¬ AllKnown marks lacked → SomeUnknown marks lacked
unknown marks lacked n = ⊎_elim (λ t. t) (λ k. absurd (n k)) (tell_known marks lacked)

unlike : {V : Type 0} {v w : V} {b : Bool} → b ≡ false → IsTrue b ↔ (v ≡ w) → v ≢ w
unlike e t d = let f = t.1 d in cc

-- a value equal to neither ..
as_equal : {V : Type 0} {v w : V} (b : Bool) → IsTrue b ↔ (v ≡ w) → v ≡ w → b ≡ true
as_equal b t d = t.1 d

as_unlike : {V : Type 0} {v w : V} (b : Bool) → IsTrue b ↔ (v ≡ w) → v ≢ w → b ≡ false
as_unlike true t n = absurd (n (t.0 refl))
as_unlike false t n = refl

module _ (V : Type 0) (at : ℕ) (v : V) (l r : Side V) (only_left only_right : List ℕ) where
  pub tests_to_rule : (a b : Bool) → IsTrue a ↔ (v ≡ l.value) → IsTrue b ↔ (v ≡ r.value) → (x : ℕ) →
      IsMarkByTests at a b l.marks r.marks only_left only_right x → IsMarkByRule V at v only_left only_right (Some l) (Some r) x
  tests_to_rule false false ta tb x h =
      subst (IsMarkByRule V at v only_left only_right (Some l) (Some r)) (sym h) (both_unlike (unlike refl ta) (unlike refl tb))
  tests_to_rule true true ta tb x h = both_equal (ta.0 refl) (tb.0 refl) h
  tests_to_rule true false ta tb x h =
      ⊎_elim (λ t. left_knows (ta.0 refl) (unlike refl tb) t.0 t.1)
      (λ t. subst (IsMarkByRule V at v only_left only_right (Some l) (Some r)) (sym t.1) (left_chosen (ta.0 refl) (unlike refl tb) (unknown _ _ t.0))) h
  tests_to_rule false true ta tb x h =
      ⊎_elim (λ t. right_knows (unlike refl ta) (tb.0 refl) t.0 t.1)
      (λ t. subst (IsMarkByRule V at v only_left only_right (Some l) (Some r)) (sym t.1) (right_chosen (unlike refl ta) (tb.0 refl) (unknown _ _ t.0))) h

pub rule_to_tests : {V : Type 0} {at : ℕ} {v : V} {only_left only_right : List ℕ} (l r : Side V) {x : ℕ} →
    IsMarkByRule V at v only_left only_right (Some l) (Some r) x →
    (a b : Bool) → IsTrue a ↔ (v ≡ l.value) → IsTrue b ↔ (v ≡ r.value) → IsMarkByTests at a b l.marks r.marks only_left only_right x
rule_to_tests {at = at} {only_left = ol} {only_right = or} l r {x} (both_unlike ne nf) a b ta tb =
    subst (λ b'. IsMarkByTests at a b' l.marks r.marks ol or at) (sym (as_unlike b tb nf))
    (subst (λ a'. IsMarkByTests at a' false l.marks r.marks ol or at) (sym (as_unlike a ta ne)) refl)
rule_to_tests {at = at} {only_left = ol} {only_right = or} l r {x} (both_equal e f c) a b ta tb =
    subst (λ b'. IsMarkByTests at a b' l.marks r.marks ol or x) (sym (as_equal b tb f))
    (subst (λ a'. IsMarkByTests at a' true l.marks r.marks ol or x) (sym (as_equal a ta e)) c)
rule_to_tests {at = at} {only_left = ol} {only_right = or} l r {x} (left_knows e nf k c) a b ta tb =
    subst (λ b'. IsMarkByTests at a b' l.marks r.marks ol or x) (sym (as_unlike b tb nf))
    (subst (λ a'. IsMarkByTests at a' false l.marks r.marks ol or x) (sym (as_equal a ta e)) (inl (k, c)))
rule_to_tests {at = at} {only_left = ol} {only_right = or} l r {x} (left_chosen e nf t) a b ta tb =
    subst (λ b'. IsMarkByTests at a b' l.marks r.marks ol or at) (sym (as_unlike b tb nf))
    (subst (λ a'. IsMarkByTests at a' false l.marks r.marks ol or at) (sym (as_equal a ta e)) (inr (λ k. k t.0 t.1 t.2, refl)))
rule_to_tests {at = at} {only_left = ol} {only_right = or} l r {x} (right_knows ne f k c) a b ta tb =
    subst (λ b'. IsMarkByTests at a b' l.marks r.marks ol or x) (sym (as_equal b tb f))
    (subst (λ a'. IsMarkByTests at a' true l.marks r.marks ol or x) (sym (as_unlike a ta ne)) (inl (k, c)))
rule_to_tests {at = at} {only_left = ol} {only_right = or} l r {x} (right_chosen ne f t) a b ta tb =
    subst (λ b'. IsMarkByTests at a b' l.marks r.marks ol or at) (sym (as_equal b tb f))
    (subst (λ a'. IsMarkByTests at a' true l.marks r.marks ol or at) (sym (as_unlike a ta ne)) (inr (λ k. k t.0 t.1 t.2, refl)))
