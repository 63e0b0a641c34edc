-- The sets give a scalar one verdict, and a name one pending file.
use Rattle.std.proofs.Common.{◌≡◌, ℕ, true, false, List, Option, Some, None, refl, sym, ◌∙◌}
use Rattle.mtn_base.specs.declared.name.NodeName.{NodeName}
use Rattle.mtn_history_laws.specs.Scalars.{Value}
use Rattle.mtn_mark_laws.specs.Rule.{Side}
use Rattle.mtn_marking.specs.declared.node.Marking.{Marking}
use Rattle.mtn_roster.specs.declared.entry.Entry.{Entry}
use Rattle.mtn_decide.specs.declared.decision.Pending.{Pending}
use Rattle.mtn_decide.specs.Verdicts.{Verdict}
use Rattle.mtn_decide.specs.Verdicts.Verdict.{Settled}
use Rattle.mtn_decide.specs.Sets.{IsVerdict, IsPendingWith}
use Rattle.mtn_decide.specs.Sets.IsVerdict.{common, left_alone, right_alone, left_wins, right_wins, clash}
use Rattle.mtn_decide.specs.Sets.IsPendingWith.{of_left, of_right}

module _ (ol or : List ℕ) where
  pub no_verdict : (v : Verdict) → IsVerdict ol or None None v → ⊥
  no_verdict v h = elim h [ ]

  pub left_verdict : (l : Side Value) (v : Verdict) → IsVerdict ol or (Some l) None v → v ≡ Settled l.value
  left_verdict l _ left_alone = refl

  pub right_verdict : (r : Side Value) (v : Verdict) → IsVerdict ol or None (Some r) v → v ≡ Settled r.value
  right_verdict r _ right_alone = refl

  both_verdicts : (l r : Side Value) (v w : Verdict) → IsVerdict ol or (Some l) (Some r) v → IsVerdict ol or (Some l) (Some r) w → v ≡ w
  both_verdicts l r _ _ (common e) (common f) = refl
  both_verdicts l r _ _ (common e) (left_wins n k) = absurd (n e)
  both_verdicts l r _ _ (common e) (right_wins n k j) = absurd (n e)
  both_verdicts l r _ _ (common e) (clash n k j) = absurd (n e)
  both_verdicts l r _ _ (left_wins n k) (common f) = absurd (n f)
  both_verdicts l r _ _ (left_wins n k) (left_wins m i) = refl
  both_verdicts l r _ _ (left_wins n k) (right_wins m i j) = absurd (i k)
  both_verdicts l r _ _ (left_wins n k) (clash m i j) = absurd (i k)
  both_verdicts l r _ _ (right_wins n k j) (common f) = absurd (n f)
  both_verdicts l r _ _ (right_wins n k j) (left_wins m i) = absurd (k i)
  both_verdicts l r _ _ (right_wins n k j) (right_wins m i g) = refl
  both_verdicts l r _ _ (right_wins n k j) (clash m i g) = absurd (g j)
  both_verdicts l r _ _ (clash n k j) (common f) = absurd (n f)
  both_verdicts l r _ _ (clash n k j) (left_wins m i) = absurd (k i)
  both_verdicts l r _ _ (clash n k j) (right_wins m i g) = absurd (j g)
  both_verdicts l r _ _ (clash n k j) (clash m i g) = refl

  pub one_verdict : (l r : Option (Side Value)) (v w : Verdict) → IsVerdict ol or l r v → IsVerdict ol or l r w → v ≡ w
  one_verdict None None v w h k = absurd (no_verdict v h)
  one_verdict (Some l) None v w h k = left_verdict l v h ∙ sym (left_verdict l w k)
  one_verdict None (Some r) v w h k = right_verdict r v h ∙ sym (right_verdict r w k)
  one_verdict (Some l) (Some r) v w h k = both_verdicts l r v w h k

  pub none_pending : (n : NodeName) (p : Pending) → IsPendingWith ol or n None None p → ⊥
  none_pending n p h = elim h [ ]

  pub both_pending : (n : NodeName) (k m : Entry × Marking) (p : Pending) → IsPendingWith ol or n (Some k) (Some m) p → ⊥
  both_pending n k m p h = elim h [ ]

  pub left_pending : (n : NodeName) (k : Entry × Marking) (p : Pending) → IsPendingWith ol or n (Some k) None p → p ≡ record { entry = k.0; from_left = true }
  left_pending n k _ (of_left s b a) = refl

  pub right_pending : (n : NodeName) (k : Entry × Marking) (p : Pending) → IsPendingWith ol or n None (Some k) p → p ≡ record { entry = k.0; from_left = false }
  right_pending n k _ (of_right s b a) = refl

  pub one_pending : (n : NodeName) (l r : Option (Entry × Marking)) (p q : Pending) → IsPendingWith ol or n l r p → IsPendingWith ol or n l r q → p ≡ q
  one_pending n None None p q h k = absurd (none_pending n p h)
  one_pending n (Some l) None p q h k = left_pending n l p h ∙ sym (left_pending n l q k)
  one_pending n None (Some r) p q h k = right_pending n r p h ∙ sym (right_pending n r q k)
  one_pending n (Some l) (Some r) p q h k = absurd (both_pending n l r p h)
