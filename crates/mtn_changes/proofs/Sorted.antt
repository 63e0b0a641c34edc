-- Sorted changes are lawful.
use Rattle.std.proofs.Common.{◌≡◌, ℕ, zero, suc, ◌+◌, ◌<◌, ◌≤◌, Bool, true, false, cond, List, [], ◌∷◌, length, get_or, take, drop, refl, sym, ap, subst, ◌∙◌, true≢false, Ordering, is_lt, IsSorted, arith}
use Rattle.std.specs.Prelude.{nat_lt}
use Rattle.std.specs.List.{list_any, count_by}
use Rattle.std.specs.Ordering.{is_eq, nat_cmp, ordering_then}
use Rattle.std.proofs.lemmas.Bool.Decides.{nat_tests}
use Rattle.std.proofs.lemmas.Cmp.{tied_itself}
use Rattle.std.proofs.lemmas.List.{take_more, take-append-drop}
use Rattle.std.proofs.lemmas.List.Elements.{All-get_or}
use Rattle.std.proofs.lemmas.List.Sums.{count_by_more_yes, sum_by-append, sum_by-cons}
use Rattle.std.proofs.lemmas.List.Sorted.{All-permutation, sum_by-IsPermutation}
use Rattle.mtn_changes.specs.declared.change.Change.{Change}
use Rattle.mtn_changes.specs.declared.change.Edge.{Edge}
use Rattle.mtn_changes.specs.declared.target.Target.{Target}
use Rattle.mtn_changes.specs.Changes.{IsChange, rank}
use Rattle.mtn_changes.specs.Targets.{target_of, target_cmp}
use Rattle.mtn_changes.specs.Lists.{last_rank, is_taken}
use Rattle.mtn_changes.specs.ChangesText.{AreChanges}
use Rattle.mtn_changes.specs.RevisionText.{Ascend, AreEdges}
use Rattle.mtn_changes.specs.Sorting.{place_cmp, IsSortedAs, AreSortedAs, AreUnsorted, AreUnsortedEdges}
use Rattle.mtn_changes.proofs.Parts.{last_rank-push}
use Rattle.mtn_changes.proofs.Places.{target_total}

abbrev pub at : Target → Change → Bool
at s c = is_eq (target_cmp (target_of c) s)

-- ranks of a sorted list do not fall
not_below : (x y : ℕ) (o : Ordering) → is_lt (ordering_then (nat_cmp x y) o) ≡ false → y ≤ x
not_below x y o h = go (nat_lt x y) refl where
  go : (b : Bool) → nat_lt x y ≡ b → y ≤ x
  go true e = absurd (true≢false (rw e at h))
  go false e = grind (arith, nat_tests)

last_rank_at : (cs : List Change) (k : ℕ) (d : Change) → k < length cs → last_rank (take (k + 1) cs) ≡ rank (get_or cs k d)
last_rank_at cs k d lt = ap last_rank (take_more cs k d lt) ∙ last_rank-push (take k cs) (get_or cs k d)

rises : (cs : List Change) → IsSorted place_cmp cs → (k : ℕ) (d : Change) → k < length cs → last_rank (take k cs) ≤ rank (get_or cs k d)
rises cs up zero d lt = omega arith
rises cs up (suc k) d lt =
    let one : suc k ≡ k + 1 = omega arith in
    let before : last_rank (take (suc k) cs) ≡ rank (get_or cs k d) = ap (λ (n : ℕ). last_rank (take n cs)) one ∙ last_rank_at cs k d (omega arith) in
    let order : rank (get_or cs k d) ≤ rank (get_or cs (k + 1) d) = not_below _ _ _ (up k d (omega arith) (omega arith)) in
    let same : rank (get_or cs (suc k) d) ≡ rank (get_or cs (k + 1) d) = ap (λ (n : ℕ). rank (get_or cs n d)) one in
    omega arith

-- none before it changes the same
abbrev pub one_at : Target → Change → ℕ
one_at s c = cond (at s c) 1 0

pub count_more : (s : Target) (c : Change) (cs : List Change) → count_by (at s) (c ∷ cs) ≡ one_at s c + count_by (at s) cs
count_more s c cs = sum_by-cons (one_at s) c cs

none_or : (s : Target) (c : Change) (cs : List Change) (b : Bool) → at s c ≡ b → count_by (at s) (c ∷ cs) ≡ 0 → (count_by (at s) cs ≡ 0 → list_any (at s) cs ≡ false)
    → list_any (at s) (c ∷ cs) ≡ false
none_or s c cs true t e more =
    let one : one_at s c ≡ 1 = ap (λ (b : Bool). cond b 1 0) t in
    absurd (omega (arith, e, one, count_more s c cs))
none_or s c cs false t e more =
    let none : one_at s c ≡ 0 = ap (λ (b : Bool). cond b 1 0) t in
    let rest : list_any (at s) cs ≡ false = more (omega (arith, e, none, count_more s c cs)) in
    rw (t, rest)

none_of : (s : Target) (cs : List Change) → count_by (at s) cs ≡ 0 → list_any (at s) cs ≡ false
none_of s [] e = refl
none_of s (c ∷ cs) e = none_or s c cs (at s c) refl e (none_of s cs)

few : (s : Target) (cs : List Change) (n : ℕ) → count_by (at s) (take n cs) ≤ count_by (at s) cs
few s cs n =
    let parts : count_by (at s) cs ≡ count_by (at s) (take n cs) + count_by (at s) (drop n cs) =
    ap (count_by (at s)) (sym (take-append-drop n cs)) ∙ sum_by-append (λ (c : Change). cond (at s c) 1 0) (take n cs) (drop n cs) in
    omega arith

pub fresh : (cs : List Change) → ((s : Target) → count_by (at s) cs ≤ 1) → (k : ℕ) (d : Change) → k < length cs → is_taken (take k cs) (get_or cs k d) ≡ false
fresh cs apart k d lt =
    let s : Target = target_of (get_or cs k d) in
    let here : at s (get_or cs k d) ≡ true = ap is_eq (tied_itself target_total s) in
    let more : count_by (at s) (take (k + 1) cs) ≡ count_by (at s) (take k cs) + 1 = count_by_more_yes (at s) cs k d lt here in
    let most : count_by (at s) (take (k + 1) cs) ≤ count_by (at s) cs = few s cs (k + 1) in
    let one : count_by (at s) cs ≤ 1 = apart s in
    none_of s (take k cs) (omega arith)

pub sorted_lawful : (cs sorted : List Change) → AreUnsorted cs → IsSortedAs cs sorted → AreChanges sorted
sorted_lawful cs sorted loose is = λ k d lt. record {
  lawful = All-get_or IsChange sorted k d lt (All-permutation IsChange cs sorted is.same loose.each);
  ordered = rises sorted is.ordered k d lt;
  fresh = fresh sorted (λ s. subst (λ (n : ℕ). n ≤ 1) (sym (sum_by-IsPermutation (λ (c : Change). cond (at s c) 1 0) cs sorted is.same)) (loose.apart s)) k d lt;
}

pub sorted_edges_lawful : (es fs : List Edge) → AreUnsortedEdges es → AreSortedAs es fs → AreEdges fs
sorted_edges_lawful [] fs loose are = absurd loose
sorted_edges_lawful (e ∷ []) [] loose are = absurd are
sorted_edges_lawful (e ∷ []) (f ∷ []) loose are = sorted_lawful e.changes f.changes loose are.1
sorted_edges_lawful (e ∷ []) (f ∷ g ∷ fs) loose are = absurd are.2
sorted_edges_lawful (e ∷ e2 ∷ []) [] loose are = absurd are
sorted_edges_lawful (e ∷ e2 ∷ []) (f ∷ []) loose are = absurd are.2
sorted_edges_lawful (e ∷ e2 ∷ []) (f ∷ f2 ∷ []) loose are = (
  sorted_lawful e.changes f.changes loose.0 are.1,
  sorted_lawful e2.changes f2.changes loose.1 are.2.1,
  subst (λ p. Ascend p f2.parent) (sym are.0) (subst (λ p. Ascend e.parent p) (sym are.2.0) loose.2),
)
sorted_edges_lawful (e ∷ e2 ∷ []) (f ∷ f2 ∷ f3 ∷ fs) loose are = absurd are.2.2
sorted_edges_lawful (e ∷ e2 ∷ e3 ∷ es) fs loose are = absurd loose
