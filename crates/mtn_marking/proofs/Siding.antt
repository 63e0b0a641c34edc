-- A list holds what the rule says, case by case on what was told of the sides.
use Rattle.std.specs.Prelude.{Contains, IsTrue, if◌then◌else◌}
use Rattle.std.proofs.Common.{◌≡◌, ◌≢◌, ◌↔◌, ◌⊎◌, ℕ, List, [], ◌∷◌, Bool, true, false, Option, Some, None, refl, sym, ◌∙◌, subst, inl, inr, ⊎_elim}
use Rattle.mtn_history_laws.specs.Scalars.{Value}
use Rattle.mtn_mark_laws.specs.Rule.{Side, IsMarkByRule}
use Rattle.mtn_mark_laws.specs.Rule.IsMarkByRule.{neither, left_equal, left_unlike, right_equal, right_unlike}
use Rattle.mtn_mark_laws.proofs.Tests.{tests_to_rule, rule_to_tests}
use Rattle.mtn_marking.specs.declared.side.Have.{Have}
use Rattle.mtn_marking.specs.Parts.{AreMarksBy}
use Rattle.mtn_marking.proofs.Rows.{AreMarksByTests, only_at}

is_at : {at x : ℕ} {v : Value} {ol or : List ℕ} → IsMarkByRule Value at v ol or None None x → x ≡ at
is_at neither = refl

left_cases : {at x : ℕ} {v : Value} {ol or : List ℕ} {l : Side Value} → IsMarkByRule Value at v ol or (Some l) None x →
    ((v ≡ l.value) × Contains l.marks x) ⊎ ((v ≢ l.value) × (x ≡ at))
left_cases (left_equal e c) = inl (e, c)
left_cases (left_unlike n) = inr (n, refl)

right_cases : {at x : ℕ} {v : Value} {ol or : List ℕ} {r : Side Value} → IsMarkByRule Value at v ol or None (Some r) x →
    ((v ≡ r.value) × Contains r.marks x) ⊎ ((v ≢ r.value) × (x ≡ at))
right_cases (right_equal e c) = inl (e, c)
right_cases (right_unlike n) = inr (n, refl)

module _ (at : ℕ) (ol or m here : List ℕ) (is : here ≡ at ∷ []) where
  pub none_row : m ≡ here → AreMarksBy at ol or None None m
  none_row e v (Some l) r tl tr x = absurd tl
  none_row e v None (Some r) tl tr x = absurd tr
  none_row e v None None tl tr x =
      let only = only_at at x m (e ∙ is) in
      (λ c. subst (IsMarkByRule Value at v ol or None None) (sym (only.0 c)) neither, λ h. only.1 (is_at h))

  left_by : (v : Value) (l : Side Value) (equal : Bool) → IsTrue equal ↔ (v ≡ l.value) → m ≡ (if equal then l.marks else here) →
      (x : ℕ) → Contains m x ↔ IsMarkByRule Value at v ol or (Some l) None x
  left_by v l true t e x = (
    λ c. left_equal (t.0 refl) (subst (λ s. Contains s x) e c),
    λ h. subst (λ s. Contains s x) (sym e) (⊎_elim (λ u. u.1) (λ u. absurd (u.0 (t.0 refl))) (left_cases h)),
  )
  left_by v l false t e x =
      let ne : v ≢ l.value = λ d. let g = t.1 d in cc in
      let only = only_at at x m (e ∙ is) in (
        λ c. subst (IsMarkByRule Value at v ol or (Some l) None) (sym (only.0 c)) (left_unlike ne),
        λ h. only.1 (⊎_elim (λ u. absurd (ne u.0)) (λ u. u.1) (left_cases h)),
      )

  right_by : (v : Value) (r : Side Value) (equal : Bool) → IsTrue equal ↔ (v ≡ r.value) → m ≡ (if equal then r.marks else here) →
      (x : ℕ) → Contains m x ↔ IsMarkByRule Value at v ol or None (Some r) x
  right_by v r true t e x = (
    λ c. right_equal (t.0 refl) (subst (λ s. Contains s x) e c),
    λ h. subst (λ s. Contains s x) (sym e) (⊎_elim (λ u. u.1) (λ u. absurd (u.0 (t.0 refl))) (right_cases h)),
  )
  right_by v r false t e x =
      let ne : v ≢ r.value = λ d. let g = t.1 d in cc in
      let only = only_at at x m (e ∙ is) in (
        λ c. subst (IsMarkByRule Value at v ol or None (Some r)) (sym (only.0 c)) (right_unlike ne),
        λ h. only.1 (⊎_elim (λ u. absurd (ne u.0)) (λ u. u.1) (right_cases h)),
      )

  pub left_row : (h : Have) → m ≡ (if h.equal then h.marks.now else here) → AreMarksBy at ol or (Some h) None m
  left_row h e v None r tl tr x = absurd tl
  left_row h e v (Some l) (Some r) tl tr x = absurd tr
  left_row h e v (Some l) None tl tr x = left_by v l h.equal tl.0 (subst (λ s. m ≡ (if h.equal then s else here)) tl.1 e) x

  pub right_row : (h : Have) → m ≡ (if h.equal then h.marks.now else here) → AreMarksBy at ol or None (Some h) m
  right_row h e v l None tl tr x = absurd tr
  right_row h e v (Some l) (Some r) tl tr x = absurd tl
  right_row h e v None (Some r) tl tr x = right_by v r h.equal tr.0 (subst (λ s. m ≡ (if h.equal then s else here)) tr.1 e) x

  pub both_rows : (h k : Have) → AreMarksByTests at h.equal k.equal h.marks.now k.marks.now ol or m → AreMarksBy at ol or (Some h) (Some k) m
  both_rows h k e v None r tl tr x = absurd tl
  both_rows h k e v (Some l) None tl tr x = absurd tr
  both_rows h k e v (Some l) (Some r) tl tr x =
      let e' : AreMarksByTests at h.equal k.equal l.marks r.marks ol or m =
      subst (λ s. AreMarksByTests at h.equal k.equal l.marks s ol or m) tr.1 (subst (λ s. AreMarksByTests at h.equal k.equal s k.marks.now ol or m) tl.1 e) in (
        λ c. tests_to_rule Value at v l r ol or h.equal k.equal tl.0 tr.0 x ((e' x).0 c),
        λ d. (e' x).1 (rule_to_tests l r d h.equal k.equal tl.0 tr.0),
      )

pub at_haves : (at : ℕ) (ol or : List ℕ) (left right l r : Option Have) (m : List ℕ) → left ≡ l → right ≡ r → AreMarksBy at ol or l r m → AreMarksBy at ol or left right m
at_haves at ol or left right l r m el er h =
    subst (λ z. AreMarksBy at ol or z right m) (sym el) (subst (λ z. AreMarksBy at ol or l z m) (sym er) h)
