-- What is decided of a scalar can be told, and is one.
use Rattle.std.specs.Prelude.{◌↔◌}
use Rattle.std.proofs.Common.{◌≡◌, ◌≢◌, ◌+◌, ℕ, List, Option, Some, None, refl, sym, ◌∙◌, ap, subst, arith}
use Rattle.std.proofs.lemmas.Option.{same_Some}
use Rattle.mtn_ancestry.specs.Ancestors.{IsAncestor, ParentsAreEarlier}
use Rattle.mtn_ancestry.proofs.Ancestry.{tell_ancestor, IsAncestor-le}
use Rattle.mtn_ancestry.proofs.Members.{find_below}
use Rattle.mtn_base.specs.declared.name.NodeName.{NodeName}
use Rattle.mtn_history_laws.specs.History.{Revision, IsGrown, parents_at, entry_at}
use Rattle.mtn_history_laws.specs.Scalars.{Scalar, Value, value_at, WinsAt}
use Rattle.mtn_history_laws.proofs.Telling.{tell_value}
use Rattle.mtn_mark_laws.specs.Marks.{IsMarked, Wins}
use Rattle.mtn_mark_laws.proofs.Telling.{tell_marked}
use Rattle.mtn_roster.specs.declared.entry.Entry.{Entry}
use Rattle.mtn_answers.proofs.Deciding.{at_place, tell_two, tell_not}
use Rattle.mtn_decide.specs.Graph.{IsDecided, IsBornOutside, IsLive, IsLiveWith}
use Rattle.mtn_decide.specs.Graph.IsDecided.{common, left_alone, right_alone, left_wins, right_wins, clash}
use Rattle.mtn_decide.specs.Verdicts.{Verdict}
use Rattle.mtn_decide.specs.Verdicts.Verdict.{Settled, Clashing}

-- whether a knows each event of b can be told: such an event stands no later than b
module _ (V : Type 0) (same : (v w : V) → Dec (v ≡ w)) (parents : ℕ → List ℕ) (early : ParentsAreEarlier parents) (value : ℕ → Option V) (a b : ℕ) where
  abbrev IsMissed : ℕ → Type 0
  IsMissed m = (IsAncestor parents m b × IsMarked V parents value m) × (¬ IsAncestor parents m a)

  tell_wins : Dec (Wins V parents value a b)
  tell_wins = elim (find_below IsMissed (b + 1) (λ m lt. tell_two (tell_two (tell_ancestor early b m) (tell_marked V same parents early value m)) (tell_not (tell_ancestor early a m)))) [
    | yes t ↦ no (λ w. t.2.1 (w t.0 t.2.0.0 t.2.0.1))
    | no n ↦ yes (λ m up mark. elim (tell_ancestor early a m) [
      | yes k ↦ k
      | no none ↦ absurd (let le = IsAncestor-le early up in n (m, omega (arith, le), ((up, mark), none)))
    ])
  ]

module _ (h : List Revision) (grown : IsGrown h) (p q : ℕ) where
  -- ---- which nodes live

  tell_outside : (r : ℕ) (n : NodeName) → Dec (IsBornOutside h r n)
  tell_outside r n = elim (at_place h grown (λ b. IsAncestor (parents_at h) b r) n.birth (λ b. tell_ancestor grown.earlier r b)) [
    | yes t ↦ no (λ out. out t.0 t.1 t.2)
    | no none ↦ yes (λ b is up. none (b, is, up))
  ]

  pub tell_live_with : (n : NodeName) (o u : Option Entry) → Dec (IsLiveWith h p q n o u)
  tell_live_with n (Some e) (Some f) = yes tt
  tell_live_with n (Some e) None = tell_outside q n
  tell_live_with n None (Some f) = tell_outside p n
  tell_live_with n None None = no (λ z. z)

  pub tell_live : (n : NodeName) → Dec (IsLive h p q n)
  tell_live n = tell_live_with n (entry_at h p n) (entry_at h q n)

  pub tell_wins_at : (s : Scalar) (a b : ℕ) → Dec (WinsAt h s a b)
  tell_wins_at s a b = tell_wins Value tell_value (parents_at h) grown.earlier (value_at h s) a b

  -- ---- what is decided

  abbrev pub IsVerdict : Scalar → Option Verdict → Type 0
  IsVerdict s o = (v : Verdict) → (o ≡ Some v) ↔ IsDecided h p q s v

  module _ (s : Scalar) where
    left_is : (v w : Value) → value_at h s p ≡ Some v → value_at h s p ≡ Some w → v ≡ w
    left_is v w e f = same_Some v w (sym e ∙ f)

    right_is : (v w : Value) → value_at h s q ≡ Some v → value_at h s q ≡ Some w → v ≡ w
    right_is v w e f = same_Some v w (sym e ∙ f)

    none_some : (r : ℕ) (v : Value) → value_at h s r ≡ None → value_at h s r ≡ Some v → ⊥
    none_some r v e f = cc

    given : (w : Verdict) → IsDecided h p q s w → ((v : Verdict) → IsDecided h p q s v → v ≡ w) → IsVerdict s (Some w)
    given w is only v = (λ e. subst (IsDecided h p q s) (same_Some w v e) is, λ d. ap Some (sym (only v d)))

    neither : value_at h s p ≡ None → value_at h s q ≡ None → IsVerdict s None
    neither e f v = (λ g. absurd cc, λ d. absurd (none v d))
      where
        none : (v : Verdict) → IsDecided h p q s v → ⊥
        none _ (common {v = v} g k) = none_some p v e g
        none _ (left_alone {v = v} g k) = none_some p v e g
        none _ (right_alone {w = w} g k) = none_some q w f k
        none _ (left_wins {v = v} g k n w) = none_some p v e g
        none _ (right_wins {v = v} g k n l w) = none_some p v e g
        none _ (clash {v = v} g k n l r) = none_some p v e g

    left_only : (x : Value) → value_at h s p ≡ Some x → value_at h s q ≡ None → (v : Verdict) → IsDecided h p q s v → v ≡ Settled x
    left_only x e f _ (common {v = v} g k) = absurd (none_some q v f k)
    left_only x e f _ (left_alone {v = v} g k) = ap Settled (left_is v x g e)
    left_only x e f _ (right_alone {w = w} g k) = absurd (none_some q w f k)
    left_only x e f _ (left_wins {w = w} g k n l) = absurd (none_some q w f k)
    left_only x e f _ (right_wins {w = w} g k n l r) = absurd (none_some q w f k)
    left_only x e f _ (clash {w = w} g k n l r) = absurd (none_some q w f k)

    right_only : (y : Value) → value_at h s p ≡ None → value_at h s q ≡ Some y → (v : Verdict) → IsDecided h p q s v → v ≡ Settled y
    right_only y e f _ (common {v = v} g k) = absurd (none_some p v e g)
    right_only y e f _ (left_alone {v = v} g k) = absurd (none_some p v e g)
    right_only y e f _ (right_alone {w = w} g k) = ap Settled (right_is w y k f)
    right_only y e f _ (left_wins {v = v} g k n l) = absurd (none_some p v e g)
    right_only y e f _ (right_wins {v = v} g k n l r) = absurd (none_some p v e g)
    right_only y e f _ (clash {v = v} g k n l r) = absurd (none_some p v e g)

    module _ (x y : Value) (e : value_at h s p ≡ Some x) (f : value_at h s q ≡ Some y) where
      -- what the two sides have, in the names of the case
      unlike : (v w : Value) → value_at h s p ≡ Some v → value_at h s q ≡ Some w → v ≢ w → x ≢ y
      unlike v w g k n z = n (left_is v x g e ∙ z ∙ sym (right_is w y k f))

      same_only : x ≡ y → (v : Verdict) → IsDecided h p q s v → v ≡ Settled x
      same_only z _ (common {v = v} g k) = ap Settled (left_is v x g e)
      same_only z _ (left_alone g k) = absurd (none_some q y k f)
      same_only z _ (right_alone g k) = absurd (none_some p x g e)
      same_only z _ (left_wins {v = v} {w = w} g k n l) = absurd (unlike v w g k n z)
      same_only z _ (right_wins {v = v} {w = w} g k n l r) = absurd (unlike v w g k n z)
      same_only z _ (clash {v = v} {w = w} g k n l r) = absurd (unlike v w g k n z)

      common_not : (v : Value) → value_at h s p ≡ Some v → value_at h s q ≡ Some v → x ≢ y → ⊥
      common_not v g k n = n (sym (left_is v x g e) ∙ right_is v y k f)

      left_win_only : x ≢ y → WinsAt h s p q → (v : Verdict) → IsDecided h p q s v → v ≡ Settled x
      left_win_only n l _ (common {v = v} g k) = absurd (common_not v g k n)
      left_win_only n l _ (left_alone {v = v} g k) = ap Settled (left_is v x g e)
      left_win_only n l _ (right_alone g k) = absurd (none_some p x g e)
      left_win_only n l _ (left_wins {v = v} g k m w) = ap Settled (left_is v x g e)
      left_win_only n l _ (right_wins g k m nl w) = absurd (nl l)
      left_win_only n l _ (clash g k m nl nr) = absurd (nl l)

      right_win_only : x ≢ y → ¬ WinsAt h s p q → WinsAt h s q p → (v : Verdict) → IsDecided h p q s v → v ≡ Settled y
      right_win_only n nl r _ (common {v = v} g k) = absurd (common_not v g k n)
      right_win_only n nl r _ (left_alone g k) = absurd (none_some q y k f)
      right_win_only n nl r _ (right_alone {w = w} g k) = ap Settled (right_is w y k f)
      right_win_only n nl r _ (left_wins g k m w) = absurd (nl w)
      right_win_only n nl r _ (right_wins {w = w} g k m nl' z) = ap Settled (right_is w y k f)
      right_win_only n nl r _ (clash g k m nl' nr) = absurd (nr r)

      clash_only : x ≢ y → ¬ WinsAt h s p q → ¬ WinsAt h s q p → (v : Verdict) → IsDecided h p q s v → v ≡ Clashing x y
      clash_only n nl nr _ (common {v = v} g k) = absurd (common_not v g k n)
      clash_only n nl nr _ (left_alone g k) = absurd (none_some q y k f)
      clash_only n nl nr _ (right_alone g k) = absurd (none_some p x g e)
      clash_only n nl nr _ (left_wins g k m w) = absurd (nl w)
      clash_only n nl nr _ (right_wins g k m nl' w) = absurd (nr w)
      clash_only n nl nr _ (clash {v = v} {w = w} g k m nl' nr') = λ i. Clashing (left_is v x g e i) (right_is w y k f i)

      pub both : (v : Verdict) × (IsDecided h p q s v × ((u : Verdict) → IsDecided h p q s u → u ≡ v))
      both = elim (tell_value x y) [
        | yes z ↦ (Settled x, (common e (f ∙ ap Some (sym z)), same_only z))
        | no n ↦ elim (tell_wins_at s p q) [
          | yes l ↦ (Settled x, (left_wins e f n l, left_win_only n l))
          | no nl ↦ elim (tell_wins_at s q p) [
            | yes r ↦ (Settled y, (right_wins e f n nl r, right_win_only n nl r))
            | no nr ↦ (Clashing x y, (clash e f n nl nr, clash_only n nl nr))
          ]
        ]
      ]

    by : (o u : Option Value) → value_at h s p ≡ o → value_at h s q ≡ u → (t : Option Verdict) × IsVerdict s t
    by None None e f = (None, neither e f)
    by (Some x) None e f = (Some (Settled x), given (Settled x) (left_alone e f) (left_only x e f))
    by None (Some y) e f = (Some (Settled y), given (Settled y) (right_alone e f) (right_only y e f))
    by (Some x) (Some y) e f = let t = both x y e f in (Some t.0, given t.0 t.1.0 t.1.1)

    pub some_verdict : (o : Option Verdict) × IsVerdict s o
    some_verdict = by (value_at h s p) (value_at h s q) refl refl
