-- Two positions that each know the other's events have one value.
use Rattle.std.proofs.Common.{◌≡◌, ℕ, zero, suc, ◌+◌, ◌<◌, List, Option, Some, sym, ◌∙◌, ap, arith}
use Rattle.std.proofs.Math.Decide.{ℕ_discrete}
use Rattle.mtn_ancestry.specs.Ancestors.{ParentsAreEarlier}
use Rattle.mtn_mark_laws.specs.Marks.{IsMarkOf, Wins, NeverComesBack}
use Rattle.mtn_ancestry.proofs.Ancestry.{IsAncestor-le}
use Rattle.mtn_mark_laws.proofs.Covering.{IsMarkOf-marked, IsMarkOf-ancestor, IsMarkOf-value, covers}

module _ (V : Type 0) (same : (v w : V) → Dec (v ≡ w)) (parents : ℕ → List ℕ) (early : ParentsAreEarlier parents)
    (value : ℕ → Option V) (never : NeverComesBack V parents value)
    (a b : ℕ) (v w : V) (at_a : value a ≡ Some v) (at_b : value b ≡ Some w)
    (ab : Wins V parents value a b) (ba : Wins V parents value b a) where
  -- from a mark x of a climb to a mark of b above it, and so on, until it stays
  climb : (n x : ℕ) → IsMarkOf V parents value a x → a < x + n → value a ≡ value b
  climb zero x k h = absurd (omega (arith, IsAncestor-le early (IsMarkOf-ancestor k)))
  climb (suc n) x k h =
      let t = (covers V same parents early value never b w at_b).1 x (ba x (IsMarkOf-ancestor k) (IsMarkOf-marked k)) (IsMarkOf-marked k) in
      let u = (covers V same parents early value never a v at_a).1 t.0 (ab t.0 (IsMarkOf-ancestor t.1) (IsMarkOf-marked t.1)) (IsMarkOf-marked t.1) in
      elim (ℕ_discrete t.0 x) [
        | yes e ↦ sym (IsMarkOf-value k) ∙ (ap value (sym e) ∙ IsMarkOf-value t.1)
        | no ne ↦ climb n u.0 u.1 (omega (arith, IsAncestor-le early t.2, IsAncestor-le early u.2))
      ]

  pub one_value : v ≡ w
  one_value =
      let t = (covers V same parents early value never a v at_a).0 in
      let e : value a ≡ value b = climb (suc a) t.0 t.1 (omega arith) in
      cc
