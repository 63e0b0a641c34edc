-- The frontier of a walk, position by position.
use Rattle.std.proofs.Common.{◌≡◌, ◌≢◌, ◌↔◌, ℕ, zero, suc, ◌<◌, ◌≤◌, ◌⊎◌, Bool, true, false, cond, Option, Some, None, IsSome, refl, sym, ◌∙◌, ap, inl, inr, arith, subst, ⊎_elim, is_lt, nat_cmp}
use Rattle.std.specs.Ordering.{is_eq}
use Rattle.std.specs.Cmp.{nat_cmp_is}
use Rattle.std.specs.declared.cmp.Ordering.TheVariants.{Less, Equal, Greater}
use Rattle.std.proofs.Math.Decide.{ℕ_discrete}
use Rattle.std.proofs.lemmas.Bool.{false≢true}
use Rattle.mtn_ancestry.specs.declared.frontier.Reach.{Reach}
use Rattle.mtn_ancestry.specs.declared.frontier.Reach.TheVariants.{Left, Right, Both}
use Rattle.mtn_ancestry.specs.Walking.{Pending, IsFromLeft, IsFromRight, IsLeftAt, IsRightAt, IsSingle, after_reach, is_single}

pub order_of : (a b : ℕ) → (a < b) ⊎ ((a ≡ b) ⊎ (b < a))
order_of zero zero = inr (inl refl)
order_of zero (suc b) = inl (omega arith)
order_of (suc a) zero = inr (inr (omega arith))
order_of (suc a) (suc b) = ⊎_elim (λ h. inl (omega arith)) (⊎_elim (λ e. inr (inl (ap suc e))) (λ h. inr (inr (omega arith)))) (order_of a b)

pub at_itself : (k : ℕ) → is_eq (nat_cmp k k) ≡ true
at_itself k = ap is_eq (sym (nat_cmp_is k k Equal refl))

pub at_other : (k q : ℕ) → q ≢ k → is_eq (nat_cmp k q) ≡ false
at_other k q n =
    ⊎_elim (λ h. ap is_eq (sym (nat_cmp_is k q Less h)))
    (⊎_elim (λ e. absurd (n (sym e))) (λ h. ap is_eq (sym (nat_cmp_is k q Greater h))))
    (order_of k q)

pub cond_itself : {X : Type 0} (k : ℕ) (w v : X) → cond (is_eq (nat_cmp k k)) w v ≡ w
cond_itself k w v = ap (λ b. cond b w v) (at_itself k)

pub cond_other : {X : Type 0} (k q : ℕ) (w v : X) → q ≢ k → cond (is_eq (nat_cmp k q)) w v ≡ v
cond_other k q w v n = ap (λ b. cond b w v) (at_other k q n)

-- no key is above an upper bound
pub above_none : (at x : ℕ) (o : Option Reach) → (IsSome o → is_lt (nat_cmp at x) ≡ false) → at < x → o ≡ None
above_none at x None h l = refl
above_none at x (Some r) h l = absurd (false≢true (sym (h (some_is r)) ∙ ap is_lt (sym (nat_cmp_is at x Less l))))
  where
    some_is : (r : Reach) → IsSome (Some r)
    some_is r = refl

pub not_above : (at x : ℕ) (o : Option Reach) → (IsSome o → is_lt (nat_cmp at x) ≡ false) → IsSingle o → x ≤ at
not_above at x o h s = ⊎_elim (λ l. absurd (none (above_none at x o h l) s)) (⊎_elim (λ e. omega arith) (λ l. omega arith)) (order_of at x)
  where
    none : {o : Option Reach} → o ≡ None → IsSingle o → ⊥
    none e s = subst IsSingle e s

-- a pending position is single exactly where one side alone came to it
pub single_tests : (r : Reach) → (is_single r ≡ true) ↔ IsSingle (Some r)
single_tests Left = (λ e. tt, λ s. refl)
single_tests Right = (λ e. tt, λ s. refl)
single_tests Both = (λ e. false≢true e, λ s. absurd s)

pub left_after : (o : Option Reach) (r : Reach) → IsFromLeft (after_reach o r) ↔ (IsLeftAt o ⊎ IsFromLeft r)
left_after None r = (inr, ⊎_elim absurd (λ f. f))
left_after (Some Left) Left = (inl, λ s. tt)
left_after (Some Left) Right = (inl, λ s. tt)
left_after (Some Left) Both = (inl, λ s. tt)
left_after (Some Right) Left = (λ f. inr tt, λ s. tt)
left_after (Some Right) Right = (λ f. absurd f, ⊎_elim (λ f. f) (λ f. f))
left_after (Some Right) Both = (λ f. inr tt, λ s. tt)
left_after (Some Both) Left = (inl, λ s. tt)
left_after (Some Both) Right = (inl, λ s. tt)
left_after (Some Both) Both = (inl, λ s. tt)

pub right_after : (o : Option Reach) (r : Reach) → IsFromRight (after_reach o r) ↔ (IsRightAt o ⊎ IsFromRight r)
right_after None r = (inr, ⊎_elim absurd (λ f. f))
right_after (Some Left) Left = (λ f. absurd f, ⊎_elim (λ f. f) (λ f. f))
right_after (Some Left) Right = (λ f. inr tt, λ s. tt)
right_after (Some Left) Both = (λ f. inr tt, λ s. tt)
right_after (Some Right) Left = (inl, λ s. tt)
right_after (Some Right) Right = (inl, λ s. tt)
right_after (Some Right) Both = (inl, λ s. tt)
right_after (Some Both) Left = (inl, λ s. tt)
right_after (Some Both) Right = (inl, λ s. tt)
right_after (Some Both) Both = (inl, λ s. tt)

-- the single positions stay apart where one position changes
pub matched_on : (f g : Pending) (s t : ℕ → Bool) (at : ℕ) (w : Option Reach) (b : Bool) →
    ((x : ℕ) → (s x ≡ true) ↔ IsSingle (f x)) →
    ((x : ℕ) → g x ≡ cond (is_eq (nat_cmp at x)) w (f x)) → ((x : ℕ) → t x ≡ cond (is_eq (nat_cmp at x)) b (s x)) →
    ((b ≡ true) ↔ IsSingle w) → (x : ℕ) → (t x ≡ true) ↔ IsSingle (g x)
matched_on f g s t at w b m gs ts new x =
    elim (ℕ_discrete x at) [
      | yes e ↦ both x (t x) (g x) b w
          (ts x ∙ ap (λ y. cond (is_eq (nat_cmp at y)) b (s x)) e ∙ cond_itself at b (s x))
          (gs x ∙ ap (λ y. cond (is_eq (nat_cmp at y)) w (f x)) e ∙ cond_itself at w (f x)) new
      | no n ↦ both x (t x) (g x) (s x) (f x) (ts x ∙ cond_other at x b (s x) n) (gs x ∙ cond_other at x w (f x) n) (m x)
    ]
  where
    both : (x : ℕ) (c : Bool) (p : Option Reach) (d : Bool) (q : Option Reach) → c ≡ d → p ≡ q → (d ≡ true) ↔ IsSingle q → (c ≡ true) ↔ IsSingle p
    both x c p d q e i h = (λ k. subst IsSingle (sym i) (h.0 (sym e ∙ k)), λ k. e ∙ h.1 (subst IsSingle i k))

-- what a reach changes, at each position
pub left_on : (f g : Pending) (at : ℕ) (r : Reach) → ((x : ℕ) → g x ≡ cond (is_eq (nat_cmp at x)) (Some (after_reach (f at) r)) (f x)) →
    (x : ℕ) → IsLeftAt (g x) ↔ (IsLeftAt (f x) ⊎ ((x ≡ at) × IsFromLeft r))
left_on f g at r gs x =
    elim (ℕ_discrete x at) [
      | yes e ↦
          let i : g x ≡ Some (after_reach (f at) r) = gs x ∙ ap (λ y. cond (is_eq (nat_cmp at y)) (Some (after_reach (f at) r)) (f x)) e ∙ cond_itself at (Some (after_reach (f at) r)) (f x) in
          let h = left_after (f at) r in (
            λ k. ⊎_elim (λ l. inl (subst (λ y. IsLeftAt (f y)) (sym e) l)) (λ l. inr (e, l)) (h.0 (subst IsLeftAt i k)),
            λ s. subst IsLeftAt (sym i) (h.1 (⊎_elim (λ l. inl (subst (λ y. IsLeftAt (f y)) e l)) (λ p. inr p.1) s)),
          )
      | no n ↦
          let i : g x ≡ f x = gs x ∙ cond_other at x (Some (after_reach (f at) r)) (f x) n in
          (λ k. inl (subst IsLeftAt i k), ⊎_elim (λ l. subst IsLeftAt (sym i) l) (λ p. absurd (n p.0)))
    ]

pub right_on : (f g : Pending) (at : ℕ) (r : Reach) → ((x : ℕ) → g x ≡ cond (is_eq (nat_cmp at x)) (Some (after_reach (f at) r)) (f x)) →
    (x : ℕ) → IsRightAt (g x) ↔ (IsRightAt (f x) ⊎ ((x ≡ at) × IsFromRight r))
right_on f g at r gs x =
    elim (ℕ_discrete x at) [
      | yes e ↦
          let i : g x ≡ Some (after_reach (f at) r) = gs x ∙ ap (λ y. cond (is_eq (nat_cmp at y)) (Some (after_reach (f at) r)) (f x)) e ∙ cond_itself at (Some (after_reach (f at) r)) (f x) in
          let h = right_after (f at) r in (
            λ k. ⊎_elim (λ l. inl (subst (λ y. IsRightAt (f y)) (sym e) l)) (λ l. inr (e, l)) (h.0 (subst IsRightAt i k)),
            λ s. subst IsRightAt (sym i) (h.1 (⊎_elim (λ l. inl (subst (λ y. IsRightAt (f y)) e l)) (λ p. inr p.1) s)),
          )
      | no n ↦
          let i : g x ≡ f x = gs x ∙ cond_other at x (Some (after_reach (f at) r)) (f x) n in
          (λ k. inl (subst IsRightAt i k), ⊎_elim (λ l. subst IsRightAt (sym i) l) (λ p. absurd (n p.0)))
    ]
