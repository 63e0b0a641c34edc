-- Where no chain of parents returns to its start, each ends at the root.
use Rattle.std.specs.Prelude.{option_and_then}
use Rattle.std.proofs.Common.{◌≡◌, ◌≢◌, ℕ, zero, suc, ◌<◌, ◌≤◌, true, List, [], ◌∷◌, ◌++◌, length, Some, ◌⊎◌, sym, ◌∙◌, ap, inl, inr, subst, ⊎_elim, arith, length-append}
use Rattle.mtn_base.specs.Names.{same_name}
use Rattle.mtn_base.specs.declared.name.NodeName.{NodeName}
use Rattle.mtn_roster.specs.Tree.{entry_of, EndsAtRoot}
use Rattle.mtn_roster.specs.Tree.EndsAtRoot.{top, under}
use Rattle.mtn_roster.specs.declared.entry.Slot.{Slot}
use Rattle.mtn_roster.specs.declared.entry.Slot.TheVariants.{Root, Below}
use Rattle.mtn_base.proofs.Finding.{Split}
use Rattle.mtn_base.proofs.Members.{split_cons, of_append, in_left, in_right}
use Rattle.mtn_base.proofs.Sorting.{no_split}
use Rattle.mtn_base.proofs.Tests.{same_name-is, same_name-self, told}
use Rattle.mtn_decide.specs.declared.decision.Decision.{Decision}
use Rattle.mtn_decide.specs.declared.decision.SlotChoice.TheVariants.{Fixed}
use Rattle.mtn_decide.specs.Decisions.{decision_of}
use Rattle.mtn_conflicts.specs.Slots.{parent_in, parent_of, climbed}
use Rattle.mtn_conflicts.specs.Result.{decided_slot, tree_before}
use Rattle.mtn_conflicts.proofs.Nodes.{has_entry, found_at, found_name}
use Rattle.mtn_conflicts.proofs.Clear.{IsTidy}

-- the list without an element is shorter, and has all its other elements
pub without : {X : Type 0} (xs : List X) (x : X) → Split xs x → (ys : List X) × (length ys < length xs) × ((y : X) → y ≢ x → Split xs y → Split ys y)
without xs x s = (
  s.before ++ s.rest,
  omega (arith, ap length s.is, length-append s.before (x ∷ s.rest), length-append s.before s.rest),
  λ y ne t. elim (of_append s.before (x ∷ s.rest) y (subst (λ l. Split l y) s.is t)) [
    | inl a ↦ in_left s.before s.rest y a
    | inr b ↦ elim (split_cons x s.rest y b) [ inl e ↦ absurd (ne (sym e)) | inr d ↦ in_right s.before s.rest y d ]
  ],
)

module _ (ds : List Decision) (tidy : IsTidy ds) where
  pub up_from : (n p : NodeName) (name : List ℕ) (d : Decision) → decision_of ds n ≡ Some d → d.slot ≡ Fixed (Below p name) → parent_of ds n ≡ Some p
  up_from n p name d h is = ap (option_and_then (λ (d : Decision). parent_in d.slot)) h ∙ ap parent_in is

  -- among `left` are all nodes from which no chain has come to d yet
  go : (fuel : ℕ) (left : List Decision) (n : NodeName) (d : Decision) → length left ≤ fuel → decision_of ds n ≡ Some d →
      ((q : NodeName) (e : Decision) → decision_of ds q ≡ Some e → Split left e ⊎ ((k : ℕ) × (climbed ds (suc k) q ≡ Some n))) →
      (s : Slot) → d.slot ≡ Fixed s → EndsAtRoot (entry_of (tree_before ds)) s
  go fuel left n d short h seen Root is = top
  go zero left n d short h seen (Below p name) is =
      elim (seen n d h) [
        | inl a ↦ absurd (none left short a)
        | inr b ↦ absurd (tidy.no_loop n d b.0 h b.1)
      ]
    where
      none : (xs : List Decision) → length xs ≤ zero → Split xs d → ⊥
      none [] lt t = no_split d t
      none (x ∷ xs) lt t = absurd (omega (arith, lt))
  go (suc fuel) left n d short h seen (Below p name) is =
      let here : Split left d = ⊎_elim (λ a. a) (λ b. absurd (tidy.no_loop n d b.0 h b.1)) (seen n d h) in
      let w = without left d here in
      let e = tidy.parent n p name d h is in
      let f = tidy.fixed p e.0 e.1 in
      let up = up_from n p name d h is in
      let rest : EndsAtRoot (entry_of (tree_before ds)) f.0 = go fuel w.0 p e.0 (omega (arith, w.1)) e.1
      (λ q c k. elim (told (same_name q n)) [
        | inl g ↦ inr (0, ap (parent_of ds) (same_name-is q n g) ∙ up)
        | inr g ↦ elim (seen q c k) [
          | inl a ↦ inl (w.2 c (λ same. let a1 : decision_of ds q ≡ Some d = k ∙ ap Some same in let a2 : q ≡ n = one_name q n d a1 h in
              let a3 : same_name q n ≡ true = ap (same_name q) (sym a2) ∙ same_name-self q in cc) a)
          | inr b ↦ inr (suc b.0, ap (option_and_then (parent_of ds)) b.1 ∙ up)
        ]
      ]) f.0 f.1 in
      under (has_entry ds p e.0 e.1) (subst (λ s. EndsAtRoot (entry_of (tree_before ds)) (decided_slot s)) (sym f.1) rest)
    where
      one_name : (a b : NodeName) (x : Decision) → decision_of ds a ≡ Some x → decision_of ds b ≡ Some x → a ≡ b
      one_name a b x u v = sym (found_name ds a x u) ∙ found_name ds b x v

  all_seen : (n : NodeName) (q : NodeName) (e : Decision) → decision_of ds q ≡ Some e → Split ds e ⊎ ((k : ℕ) × (climbed ds (suc k) q ≡ Some n))
  all_seen n q e k = inl (found_at ds q e k)

  pub chains_end : (n : NodeName) (d : Decision) → decision_of ds n ≡ Some d → EndsAtRoot (entry_of (tree_before ds)) (decided_slot d.slot)
  chains_end n d h =
      let f = tidy.fixed n d h in
      subst (λ s. EndsAtRoot (entry_of (tree_before ds)) (decided_slot s)) (sym f.1) (go (length ds) ds n d (omega arith) h (all_seen n) f.0 f.1)
