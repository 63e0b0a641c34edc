-- Lawful changes are so in any order.
use Rattle.std.proofs.Common.{◌≡◌, ℕ, zero, suc, ◌+◌, ◌<◌, ◌≤◌, Bool, true, false, cond, List, [], ◌∷◌, length, get_or, take, refl, sym, ap, subst, ◌∙◌, true≢false, Ordering, Less, Equal, Greater, arith}
use Rattle.std.specs.List.{count_by}
use Rattle.std.specs.Ordering.{is_eq}
use Rattle.std.proofs.lemmas.Bool.{or_parts}
use Rattle.std.proofs.lemmas.Cmp.{alike_right}
use Rattle.std.proofs.lemmas.List.{take_all}
use Rattle.std.proofs.lemmas.List.Elements.{All-nil, All-from_get_or}
use Rattle.std.proofs.lemmas.List.Sums.{count_by_more_yes, count_by_more_no}
use Rattle.mtn_changes.specs.declared.change.Change.{Change}
use Rattle.mtn_changes.specs.declared.change.Edge.{Edge}
use Rattle.mtn_changes.specs.declared.target.Target.{Target}
use Rattle.mtn_changes.specs.Changes.{IsChange}
use Rattle.mtn_changes.specs.Targets.{target_of, target_cmp, is_same_target}
use Rattle.mtn_changes.specs.Lists.{is_taken}
use Rattle.mtn_changes.specs.ChangesText.{AreChanges}
use Rattle.mtn_changes.specs.RevisionText.{AreEdges}
use Rattle.mtn_changes.specs.Sorting.{AreUnsorted, AreUnsortedEdges}
use Rattle.mtn_changes.proofs.Places.{target_total}
use Rattle.mtn_changes.proofs.Sorted.{at, one_at, count_more}

pub equal : (o : Ordering) → is_eq o ≡ true → o ≡ Equal
equal Less e = absurd (true≢false (sym e))
equal Equal e = refl
equal Greater e = absurd (true≢false (sym e))

-- none of the list changes s where none changes what c does, which is s
untouched : (s : Target) (c : Change) → target_cmp (target_of c) s ≡ Equal → (cs : List Change) → is_taken cs c ≡ false → count_by (at s) cs ≡ 0
untouched s c tie [] none = refl
untouched s c tie (b ∷ cs) none =
    let same : target_cmp (target_of b) (target_of c) ≡ target_cmp (target_of b) s = alike_right target_total (target_of c) s (target_of b) tie in
    let parts = or_parts (is_same_target b c) (is_taken cs c) none in
    let here : at s b ≡ false = ap is_eq (sym same) ∙ parts.0 in
    let one : one_at s b ≡ 0 = ap (λ (x : Bool). cond x 1 0) here in
    let rest : count_by (at s) cs ≡ 0 = untouched s c tie cs parts.1 in
    omega (arith, count_more s b cs, one, rest)

one_of : (s : Target) (cs : List Change) (k : ℕ) (d : Change) → k < length cs → is_taken (take k cs) (get_or cs k d) ≡ false → count_by (at s) (take k cs) ≤ 1 → (b : Bool) → at s (get_or cs k d) ≡ b
    → count_by (at s) (take (k + 1) cs) ≤ 1
one_of s cs k d lt fresh most true e =
    let more : count_by (at s) (take (k + 1) cs) ≡ count_by (at s) (take k cs) + 1 = count_by_more_yes (at s) cs k d lt e in
    let none : count_by (at s) (take k cs) ≡ 0 = untouched s (get_or cs k d) (equal (target_cmp (target_of (get_or cs k d)) s) e) (take k cs) fresh in
    omega arith
one_of s cs k d lt fresh most false e =
    let more : count_by (at s) (take (k + 1) cs) ≡ count_by (at s) (take k cs) = count_by_more_no (at s) cs k d lt e in
    omega arith

at_most : (s : Target) (cs : List Change) (d : Change) → AreChanges cs → (k : ℕ) → k ≤ length cs → count_by (at s) (take k cs) ≤ 1
at_most s cs d lawful zero le = omega arith
at_most s cs d lawful (suc k) le =
    let next : count_by (at s) (take (k + 1) cs) ≤ 1 =
    one_of s cs k d (omega arith) (lawful k d (omega arith)).fresh (at_most s cs d lawful k (omega arith)) (at s (get_or cs k d)) refl in
    let one : suc k ≡ k + 1 = omega arith in
    subst (λ (n : ℕ). count_by (at s) (take n cs) ≤ 1) (sym one) next

pub unsorted : (cs : List Change) → AreChanges cs → AreUnsorted cs
unsorted [] lawful = record { each = All-nil IsChange; apart = λ s. omega arith }
unsorted (c ∷ cs) lawful = record {
  each = All-from_get_or IsChange (c ∷ cs) c (λ i lt. (lawful i c lt).lawful);
  apart = λ s. subst (λ (xs : List Change). count_by (at s) xs ≤ 1) (take_all (length (c ∷ cs)) (c ∷ cs) (omega arith)) (at_most s (c ∷ cs) c lawful (length (c ∷ cs)) (omega arith));
}

pub unsorted_edges : (es : List Edge) → AreEdges es → AreUnsortedEdges es
unsorted_edges [] lawful = lawful
unsorted_edges (e ∷ []) lawful = unsorted e.changes lawful
unsorted_edges (e ∷ f ∷ []) lawful = (unsorted e.changes lawful.0, unsorted f.changes lawful.1, lawful.2)
unsorted_edges (e ∷ f ∷ g ∷ es) lawful = lawful
