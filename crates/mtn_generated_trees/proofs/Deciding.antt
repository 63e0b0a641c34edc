-- What a merge of the tips decides of each scalar.
use Rattle.std.specs.Prelude.{Contains, IsSome}
use Rattle.std.proofs.Common.{◌≡◌, ◌≢◌, ◌⊎◌, ℕ, List, [], ◌∷◌, Option, Some, None, refl, sym, ◌∙◌, ap, subst, ⊎_elim, inl, inr, arith}
use Rattle.mtn_ancestry.specs.Ancestors.{IsAncestor}
use Rattle.mtn_ancestry.specs.Ancestors.IsAncestor.{itself, through}
use Rattle.mtn_ancestry.proofs.Ancestry.{IsAncestor-le}
use Rattle.mtn_base.specs.declared.name.NodeName.{NodeName}
use Rattle.mtn_base.proofs.IdOrder.{contains_cases, contains_head, contains_nil}
use Rattle.mtn_decide.specs.Decisions.{Merge}
use Rattle.mtn_decide.specs.Graph.{IsDecided, IsLive, IsLiveWith, IsMergeOf}
use Rattle.mtn_decide.specs.Graph.IsDecided.{common, left_alone, right_alone, left_wins, right_wins, clash}
use Rattle.mtn_decide.specs.Verdicts.{Verdict, verdict_in}
use Rattle.mtn_decide.specs.Verdicts.Verdict.{Settled}
use Rattle.mtn_history_laws.specs.History.{IsGrown, Revision, entry_at, parents_at}
use Rattle.mtn_history_laws.specs.Scalars.{Scalar, Value, WinsAt, node_of, value_at}
use Rattle.mtn_mark_laws.specs.Marks.{IsMarked}
use Rattle.mtn_mark_laws.specs.Marks.IsMarked.{changed, chosen, fresh}
use Rattle.mtn_roster.specs.declared.entry.Entry.{Entry}

-- ---- who wins

module _ (h : List Revision) (p : ℕ) where
  one_parent : (l q : ℕ) → parents_at h l ≡ p ∷ [] → Contains (parents_at h l) q → q ≡ p
  one_parent l q one c = ⊎_elim (λ e. sym e) (λ d. absurd (contains_nil d)) (contains_cases p [] q (subst (λ ps. Contains ps q) one c))

  pub has_parent : (l : ℕ) → parents_at h l ≡ p ∷ [] → Contains (parents_at h l) p
  has_parent l one = subst (λ ps. Contains ps p) (sym one) (contains_head p [])

  -- a child that has a scalar as its parent has it is no event of it
  unmarked : (s : Scalar) (l : ℕ) → parents_at h l ≡ p ∷ [] → value_at h s l ≡ value_at h s p → IsMarked Value (parents_at h) (value_at h s) l → ⊥
  unmarked s l one same (fresh {v = v} e none) = let z : Some v ≡ None = sym e ∙ same ∙ none p (has_parent l one) in cc
  unmarked s l one same (changed {v = v} e differ) = differ p v (has_parent l one) (sym same ∙ e) refl
  unmarked s l one same (chosen {p = a} {q = b} {v = v} {w = w} e at_a at_b kept other ne above outside marked) =
      let ab : b ≡ a = one_parent l b one at_b ∙ sym (one_parent l a one at_a) in
      let z : Some v ≡ Some w = sym kept ∙ ap (value_at h s) ab ∙ other in
      ne (let same_value : v ≡ w = cc in same_value)

  pub above : (m l : ℕ) → parents_at h l ≡ p ∷ [] → IsAncestor (parents_at h) m l → (m ≡ l) ⊎ IsAncestor (parents_at h) m p
  above m l one itself = inl refl
  above m l one (through {p = q} c a) = inr (subst (IsAncestor (parents_at h) m) (one_parent l q one c) a)

  module _ (s : Scalar) (a b : ℕ) (of_a : parents_at h a ≡ p ∷ []) (of_b : parents_at h b ≡ p ∷ []) (same : value_at h s b ≡ value_at h s p) where
    -- the one child knows each event of the other, which has the scalar as their parent has it
    pub knows : WinsAt h s a b
    knows m up marked = ⊎_elim
        (λ e. absurd (unmarked s b of_b same (subst (IsMarked Value (parents_at h) (value_at h s)) e marked)))
        (λ u. through (has_parent a of_a) u) (above m b of_b up)

    -- and the other does not know its change
    pub loses : IsGrown h → (v w : Value) → value_at h s a ≡ Some v → value_at h s b ≡ Some w → v ≢ w → WinsAt h s b a → ⊥
    loses grown v w at_a at_b ne wins = ⊎_elim
        (λ e. ne (let z : Some v ≡ Some w = sym at_a ∙ ap (value_at h s) e ∙ at_b in let y : v ≡ w = cc in y))
        (λ u. let le = IsAncestor-le grown.earlier u in let lt = grown.earlier a p (has_parent a of_a) in omega (arith, le, lt))
        (above a b of_b (wins a itself marked))
      where
        differ : (q : ℕ) (u : Value) → Contains (parents_at h a) q → value_at h s q ≡ Some u → v ≢ u
        differ q u c e g =
            let z : Some w ≡ Some u = sym at_b ∙ same ∙ ap (value_at h s) (sym (one_parent a q of_a c)) ∙ e in
            ne (let y : w ≡ u = cc in g ∙ sym y)

        marked : IsMarked Value (parents_at h) (value_at h s) a
        marked = changed at_a differ

    -- so what is decided is what that child has, whichever side it is
    module _ (grown : IsGrown h) (lacks : value_at h s a ≡ None → value_at h s b ≡ None) where
      abbrev Kept : Verdict → Type 0
      Kept x = (v : Value) × (x ≡ Settled v) × (value_at h s a ≡ Some v)

      at_left : (x : Verdict) → IsDecided h a b s x → Kept x
      at_left _ (common {v = v} f g) = (v, refl, f)
      at_left _ (left_alone {v = v} f g) = (v, refl, f)
      at_left _ (right_alone {w = w} f g) = absurd (let z : None ≡ Some w = sym (lacks f) ∙ g in cc)
      at_left _ (left_wins {v = v} f g ne k) = (v, refl, f)
      at_left _ (right_wins f g ne n k) = absurd (n knows)
      at_left _ (clash f g ne nl nr) = absurd (nl knows)

      at_right : (x : Verdict) → IsDecided h b a s x → Kept x
      at_right _ (common {v = v} f g) = (v, refl, g)
      at_right _ (left_alone {v = v} f g) = absurd (let z : None ≡ Some v = sym (lacks g) ∙ f in cc)
      at_right _ (right_alone {w = w} f g) = (w, refl, g)
      at_right _ (left_wins {v = v} {w = w} f g ne k) = absurd (loses grown w v g f (λ e. ne (sym e)) k)
      at_right _ (right_wins {w = w} f g ne n k) = (w, refl, g)
      at_right _ (clash f g ne nl nr) = absurd (nr knows)

      pub kept : (x : Verdict) → IsDecided h a b s x ⊎ IsDecided h b a s x → Kept x
      kept x d = ⊎_elim (at_left x) (at_right x) d

-- ---- what is decided at all

module _ (h : List Revision) (a b : ℕ) (m : Merge) (is : IsMergeOf h a b m) where
  -- a scalar of a live node that a side has is decided
  pub has_verdict : (s : Scalar) → IsLive h a b (node_of s) → verdict_in m s ≡ None → (IsSome (value_at h s a)) ⊎ (IsSome (value_at h s b)) → ⊥
  has_verdict s lives none some = by (value_at h s a) (value_at h s b) refl refl some
    where
      no : (w : Verdict) → IsDecided h a b s w → ⊥
      no w d = let k = (is.scalars s w).1 (lives, d) in cc

      by : (o u : Option Value) → value_at h s a ≡ o → value_at h s b ≡ u → (IsSome o) ⊎ (IsSome u) → ⊥
      by None None e f some = ⊎_elim (λ k. let z = k in cc) (λ k. let z = k in cc) some
      by (Some v) None e f some = no (Settled v) (left_alone e f)
      by None (Some w) e f some = no (Settled w) (right_alone e f)
      by (Some v) (Some w) e f some =
          let ne : v ≢ w = λ g. no (Settled v) (common e (f ∙ ap Some (sym g))) in
          let nl : ¬ WinsAt h s a b = λ k. no (Settled v) (left_wins e f ne k) in
          let nr : ¬ WinsAt h s b a = λ k. no (Settled w) (right_wins e f ne nl k) in
          no _ (clash e f ne nl nr)

  pub decided : (s : Scalar) (v : Verdict) → verdict_in m s ≡ Some v → IsDecided h a b s v
  decided s v e = ((is.scalars s v).0 e).1

  pub lives_in_both : (n : NodeName) (e g : Entry) → entry_at h a n ≡ Some e → entry_at h b n ≡ Some g → IsLive h a b n
  lives_in_both n e g k l = subst (λ u. IsLiveWith h a b n u (entry_at h b n)) (sym k) (subst (λ v. IsLiveWith h a b n (Some e) v) (sym l) tt)
