-- Changes that ascend by what they change are apart.
use Rattle.std.proofs.Common.{◌≡◌, ℕ, zero, suc, ◌+◌, ◌<◌, ◌≤◌, Bool, true, false, cond, List, [], ◌∷◌, ◌++◌, append_assoc, length, get_or, map, Bor, refl, sym, ap, subst, ◌∙◌, true≢false, Ordering, Less, Equal, Greater, arith}
use Rattle.std.specs.Prelude.{IsTrue}
use Rattle.std.specs.List.{count_by, AllByRecursion, AllAdjacentBelow, IsAllAdjacentAnswer}
use Rattle.std.specs.List.Sorted.{IsPermutation, IsSorted, IsSortedBy, IsStrictlySortedBy}
use Rattle.std.specs.Ordering.{is_eq, is_lt, ordering_reverse}
use Rattle.std.proofs.lemmas.List.{length-map}
use Rattle.std.proofs.lemmas.List.Sorted.{IsPermutation-map, sum_by-IsPermutation}
use Rattle.std.proofs.lemmas.Map.Keys.{sorted_from_all_adjacent}
use Rattle.mtn_changes.specs.declared.change.Change.{Change}
use Rattle.mtn_changes.specs.declared.target.Target.{Target}
use Rattle.mtn_changes.specs.Targets.{target_of, target_cmp, AreApart}
use Rattle.mtn_basic_io.specs.Spelling.{LineText}
use Rattle.mtn_changes.specs.declared.change.Edge.{Edge}
use Rattle.mtn_changes.specs.declared.head.Head.TheVariants.{Parent}
use Rattle.mtn_changes.specs.Heads.{head_stanza}
use Rattle.mtn_changes.specs.Stanzas.{stanza_of}
use Rattle.mtn_changes.specs.Sorting.{place_cmp, IsSortedAs, EdgeWritten}
use Rattle.mtn_changes.proofs.Places.{target_total}
use Rattle.mtn_changes.proofs.Sorted.{at, one_at, count_more}
use Rattle.mtn_changes.proofs.Unsorted.{equal}

below : (r : Ordering) → is_lt r ≡ true → r ≡ Less
below Less e = refl
below Equal e = absurd (true≢false (sym e))
below Greater e = absurd (true≢false (sym e))

-- what is above s is not tied to it
not_at : (s t u : Target) → target_cmp s t ≡ Equal → target_cmp s u ≡ Less → is_eq (target_cmp u t) ≡ false
not_at s t u tie lt = ap is_eq (target_total.antisymm u t) ∙ ap (λ (o : Ordering). is_eq (ordering_reverse o)) (sym (target_total.congr s t u tie) ∙ lt)

none_above : (s t : Target) → target_cmp s t ≡ Equal → (cs : List Change) → AllByRecursion (λ u. target_cmp s u ≡ Less) (map target_of cs) → count_by (at t) cs ≡ 0
none_above s t tie [] all = refl
none_above s t tie (c ∷ cs) all =
    let here : at t c ≡ false = not_at s t (target_of c) tie all.0 in
    let one : one_at t c ≡ 0 = ap (λ (b : Bool). cond b 1 0) here in
    omega (arith, count_more t c cs, one, none_above s t tie cs all.1)

once_more : (s : Target) (c : Change) (cs : List Change) → AllByRecursion (λ u. target_cmp (target_of c) u ≡ Less) (map target_of cs) → count_by (at s) cs ≤ 1 → (b : Bool) → at s c ≡ b → count_by (at s) (c ∷ cs) ≤ 1
once_more s c cs up most true e =
    let one : one_at s c ≡ 1 = ap (λ (b : Bool). cond b 1 0) e in
    let rest : count_by (at s) cs ≡ 0 = none_above (target_of c) s (equal (target_cmp (target_of c) s) e) cs up in
    omega (arith, count_more s c cs, one, rest)
once_more s c cs up most false e =
    let none : one_at s c ≡ 0 = ap (λ (b : Bool). cond b 1 0) e in
    omega (arith, count_more s c cs, none, most)

once : (s : Target) (cs : List Change) → IsStrictlySortedBy target_cmp (map target_of cs) → count_by (at s) cs ≤ 1
unfolding IsStrictlySortedBy
once s [] up = omega arith
once s (c ∷ cs) up = once_more s c cs up.0 (once s cs up.1) (at s c) refl

-- references to changes
abbrev pub lower : Bor Change → Bor Change → Bool
lower x y = is_lt (target_cmp (target_of x.now) (target_of y.now))

abbrev pub behind : Bor Change → Change
behind b = b.now

target_at : (bs : List (Bor Change)) (k : ℕ) (d : Bor Change) → get_or (map target_of (map behind bs)) k (target_of d.now) ≡ target_of (get_or bs k d).now
target_at [] k d = refl
target_at (b ∷ bs) zero d = refl
target_at (b ∷ bs) (suc k) d = target_at bs k d

as_many : (bs : List (Bor Change)) → length (map target_of (map behind bs)) ≡ length bs
as_many [] = refl
as_many (b ∷ bs) = ap suc (as_many bs)

ascend : (bs : List (Bor Change)) → AllAdjacentBelow (λ x y. true ≡ lower x y) bs (length bs) → IsStrictlySortedBy target_cmp (map target_of (map behind bs))
unfolding IsStrictlySortedBy
ascend [] up = tt
ascend (b ∷ bs) up =
    sorted_from_all_adjacent target_total (map target_of (map behind (b ∷ bs))) (target_of b.now) (λ k lt.
    ap (λ (t : Target). target_cmp t (get_or (map target_of (map behind (b ∷ bs))) (k + 1) (target_of b.now))) (target_at (b ∷ bs) k b)
    ∙ ap (λ (t : Target). target_cmp (target_of (get_or (b ∷ bs) k b).now) t) (target_at (b ∷ bs) (k + 1) b)
    ∙ below _ (sym (up k b (subst (λ (n : ℕ). k + 1 < n) (as_many (b ∷ bs)) lt))))

pub apart_by : (old new : List (Bor Change)) (cs : List Change) (r : Bool) → map behind old ≡ cs → IsPermutation old new → IsAllAdjacentAnswer (λ x y b. b ≡ lower x y) new r → IsTrue r → AreApart cs
apart_by old new cs false are moved up is s = absurd (true≢false (sym is))
apart_by old new cs true are moved up is s =
    let count : count_by (at s) (map behind new) ≡ count_by (at s) (map behind old) =
    sum_by-IsPermutation (λ (c : Change). cond (at s c) 1 0) (map behind old) (map behind new) (IsPermutation-map behind old new moved) in
    let most : count_by (at s) (map behind new) ≤ 1 = once s (map behind new) (ascend new up) in
    subst (λ (xs : List Change). count_by (at s) xs ≤ 1) are (omega (arith, count, most))

-- changes behind references, in the writer's order
now_at : (bs : List (Bor Change)) (k : ℕ) (d : Change) (e : Bor Change) → k < length bs → get_or (map behind bs) k d ≡ (get_or bs k e).now
now_at [] k d e lt = absurd (omega arith)
now_at (b ∷ bs) zero d e lt = refl
now_at (b ∷ bs) (suc k) d e lt = now_at bs k d e (omega arith)

sorted_now : (bs : List (Bor Change)) → IsSortedBy (λ x y. is_lt (place_cmp x.now y.now)) bs → IsSorted place_cmp (map behind bs)
sorted_now [] up k d le lt = absurd (omega arith)
sorted_now (b ∷ bs) up k d le lt =
    let high : k + 1 < length (b ∷ bs) = omega (arith, lt, length-map bs behind) in
    let here : get_or (map behind (b ∷ bs)) k d ≡ (get_or (b ∷ bs) k b).now = now_at (b ∷ bs) k d b (omega arith) in
    let next : get_or (map behind (b ∷ bs)) (k + 1) d ≡ (get_or (b ∷ bs) (k + 1) b).now = now_at (b ∷ bs) (k + 1) d b high in
    rw (here, next) (up k b le high)

pub sorted_behind : (old new : List (Bor Change)) (cs : List Change) → map behind old ≡ cs → IsPermutation old new → IsSortedBy (λ x y. is_lt (place_cmp x.now y.now)) new → IsSortedAs cs (map behind new)
sorted_behind old new cs are moved up =
    record { same = subst (λ (xs : List Change). IsPermutation xs (map behind new)) are (IsPermutation-map behind old new moved); ordered = sorted_now new up }

-- an edge's head and then its changes
pub edge_written : (before mid after : List (List LineText)) (e : Edge) (s : List LineText) (bs refs : List (Bor Change)) (cs : List Change) → cs ≡ e.changes → IsSortedAs cs (map behind bs) → s ≡ head_stanza (Parent e.parent)
    → mid ≡ before ++ s ∷ [] → refs ≡ bs → after ≡ mid ++ map stanza_of (map behind refs) → EdgeWritten before e after
edge_written before mid after e s bs refs cs are sorted head first same more = record {
  sorted = map behind bs;
  is = subst (λ (xs : List Change). IsSortedAs xs (map behind bs)) are sorted;
  spelled =
      more
      ∙ ap (λ (us : List (List LineText)). us ++ map stanza_of (map behind refs)) first
      ∙ append_assoc before (s ∷ []) (map stanza_of (map behind refs))
      ∙ ap (λ (t : List LineText). before ++ t ∷ map stanza_of (map behind refs)) head
      ∙ ap (λ (xs : List (Bor Change)). before ++ head_stanza (Parent e.parent) ∷ map stanza_of (map behind xs)) same;
}
