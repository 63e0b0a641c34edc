-- A whole step of the walk: note the position, come to its parents, and go on to the next.
use Rattle.std.specs.Prelude.{All, Contains}
use Rattle.std.specs.List.Sorted.{IsStrictlyIncreasing}
use Rattle.std.proofs.Common.{◌≡◌, ◌≢◌, ◌↔◌, ℕ, zero, suc, ◌-◌, ◌<◌, ◌≤◌, List, [], ◌∷◌, ◌++◌, reverse, ◌⊎◌, Option, Some, None, IfSome, IfNone, get_or, refl, sym, ◌∙◌, ap, inl, inr, arith, subst, ⊎_elim, add-one}
use Rattle.std.proofs.Math.Decide.{ℕ_discrete}
use Rattle.std.proofs.lemmas.List.{reverse-append}
use Rattle.std.proofs.lemmas.List.Elements.{All-nil, All-push, Contains-push_cases, Contains-get_or}
use Rattle.std.proofs.lemmas.List.Sorted.{All-permutation, Contains-permutation, IsPermutation-reverse, IsPermutation-sym}
use Rattle.mtn_ancestry.specs.Ancestors.{IsUncommon, ParentsAreEarlier, ReachesFrom}
use Rattle.mtn_ancestry.specs.Sets.{IsAscendingListOf}
use Rattle.mtn_ancestry.specs.declared.frontier.Reach.{Reach}
use Rattle.mtn_ancestry.specs.declared.frontier.Reach.TheVariants.{Left, Right, Both}
use Rattle.mtn_ancestry.specs.declared.frontier.Frontier.{Frontier}
use Rattle.mtn_ancestry.specs.Walking.{pending_of, Pending, IsFromLeft, IsFromRight, IsLeftAt, IsRightAt, IsSingle, IsBelow, IsWalked, IsDescendingFrom, with_position, left_noted, right_noted, StandsAt, IsUnderWay, IsOrderly, IsNextBelow, AreUpTo}
use Rattle.mtn_ancestry.proofs.Members.{Contains-nil}
use Rattle.mtn_ancestry.proofs.Ancestry.{IsAncestor-le, ancestor_at}
use Rattle.mtn_ancestry.proofs.Walks as walks
use Rattle.mtn_ancestry.proofs.Walks.{lowered, same_walk, all_found, start_reached, with_here, with_other, single_sides}

pub found_left : (parents : ℕ → List ℕ) → ParentsAreEarlier parents → (a b low at : ℕ) (f : Pending) (r : Reach) (left right : List ℕ) → IsBelow f at →
    IsWalked parents a b low (suc at) (with_position f at r) left right → (x : ℕ) → Contains (left_noted r left at) x ↔ ((at ≤ x) × IsUncommon parents a b x)
found_left parents early a b low at f Left left right below w = walks.left_noted parents early a b low at f Left left right below w refl
found_left parents early a b low at f Right left right below w = walks.left_kept parents early a b low at f Right left right below w tt
found_left parents early a b low at f Both left right below w = walks.left_kept parents early a b low at f Both left right below w tt

pub found_right : (parents : ℕ → List ℕ) → ParentsAreEarlier parents → (a b low at : ℕ) (f : Pending) (r : Reach) (left right : List ℕ) → IsBelow f at →
    IsWalked parents a b low (suc at) (with_position f at r) left right → (x : ℕ) → Contains (right_noted r right at) x ↔ ((at ≤ x) × IsUncommon parents b a x)
found_right parents early a b low at f Left left right below w = walks.right_kept parents early a b low at f Left left right below w tt
found_right parents early a b low at f Right left right below w = walks.right_noted parents early a b low at f Right left right below w refl
found_right parents early a b low at f Both left right below w = walks.right_kept parents early a b low at f Both left right below w tt

-- what `pop` says of the frontier before and after it
pub record Pops (f g : Pending) (next : Option (ℕ × Reach)) : Type 0 where
  pub done : IfNone next ((x : ℕ) → ¬ IsSingle (f x))
  pub had : IfSome next (λ p. f p.0 ≡ Some p.1)
  pub greatest : IfSome next (λ p. (x : ℕ) → p.0 < x → f x ≡ None)
  pub taken : IfSome next (λ p. g p.0 ≡ None)
  pub rest : IfSome next (λ p. (x : ℕ) → x ≢ p.0 → g x ≡ f x)
  pub single : IfSome next (λ p. (u : ℕ) × (u ≤ p.0) × IsSingle (f u))

some_side : (o : Option Reach) (r : Reach) → o ≡ Some r → IsLeftAt o ⊎ IsRightAt o
some_side o Left e = inl (subst IsLeftAt (sym e) tt)
some_side o Right e = inr (subst IsRightAt (sym e) tt)
some_side o Both e = inl (subst IsLeftAt (sym e) tt)

no_side : (o : Option Reach) → o ≡ None → IsLeftAt o ⊎ IsRightAt o → ⊥
no_side o e s = ⊎_elim (λ l. subst IsLeftAt e l) (λ r. subst IsRightAt e r) s

-- a pending position is at most the greatest
at_most : (f g : Pending) (p : ℕ × Reach) → Pops f g (Some p) → (x : ℕ) → IsLeftAt (f x) ⊎ IsRightAt (f x) → x ≤ p.0
at_most f g p o x s =
    elim (ℕ_discrete (x - p.0) 0) [
      | yes e ↦ omega arith
      | no n ↦ absurd (no_side (f x) (o.greatest x (omega arith)) s)
    ]

pub next_below : (f g : Pending) (at : ℕ) (next : Option (ℕ × Reach)) → IsBelow f at → Pops f g next → IsNextBelow next at
next_below f g at None below o = tt
next_below f g at (Some p) below o = below p.0 (some_side (f p.0) p.1 o.had)

pub under_way : (parents : ℕ → List ℕ) → ParentsAreEarlier parents → (a b low at : ℕ) (f g : Pending) (next : Option (ℕ × Reach)) (left right : List ℕ) →
    IsBelow f at → IsWalked parents a b low at f left right → Pops f g next → IsUnderWay parents a b low next g left right
under_way parents early a b low at f g None left right below w o =
    let t = all_found parents early a b low at f left right w o.done in record { left_found = t.0; right_found = t.1 }
under_way parents early a b low at f g (Some p) left right below w o = record {
  reach_at = let u = o.single in omega (arith, w.single_reach u.0 u.2, u.1);
  walked = same_walk parents early a b low (suc p.0) f (with_position g p.0 p.1) left right
      (λ x. elim (ℕ_discrete x p.0) [
        | yes e ↦ ap (with_position g p.0 p.1) e ∙ with_here g p.0 p.1 ∙ sym o.had ∙ ap f (sym e)
        | no n ↦ with_other g p.0 p.1 x n ∙ o.rest x n
      ])
      (lowered parents early a b low at p.0 f left right w (below p.0 (some_side (f p.0) p.1 o.had)) (at_most f g p o));
}

-- what is pending after the parents is below the position that was left
pub below_after : (f g : Pending) (at : ℕ) (r : Reach) (ps : List ℕ) → IsBelow f at → ((p : ℕ) → Contains ps p → p < at) →
    ((x : ℕ) → IsLeftAt (g x) ↔ (IsLeftAt (f x) ⊎ (Contains ps x × IsFromLeft r))) →
    ((x : ℕ) → IsRightAt (g x) ↔ (IsRightAt (f x) ⊎ (Contains ps x × IsFromRight r))) → IsBelow g at
below_after f g at r ps below early lefts rights x s =
    ⊎_elim (λ l. ⊎_elim (λ o. below x (inl o)) (λ p. early x p.0) ((lefts x).0 l))
    (λ l. ⊎_elim (λ o. below x (inr o)) (λ p. early x p.0) ((rights x).0 l)) s

Contains-reverse : (xs : List ℕ) (x : ℕ) → Contains (reverse xs) x ↔ Contains xs x
Contains-reverse xs x = (
  Contains-permutation (reverse xs) xs x (IsPermutation-sym xs (reverse xs) (IsPermutation-reverse xs)),
  Contains-permutation xs (reverse xs) x (IsPermutation-reverse xs),
)

increasing_cons : (x : ℕ) (ys : List ℕ) → IsStrictlyIncreasing ys → ((y : ℕ) → Contains ys y → x < y) → IsStrictlyIncreasing (x ∷ ys)
increasing_cons x ys inc above zero h = above (get_or ys 0 0) (Contains-get_or ys 0 0 (omega arith))
increasing_cons x ys inc above (suc k) h = rw add-one (rw add-one at (inc k (omega arith)))

pushed : (xs : List ℕ) (at : ℕ) → IsDescendingFrom (suc at) xs → IsDescendingFrom at (xs ++ at ∷ [])
pushed xs at d = record {
  descending = rw (reverse-append xs (at ∷ [])) (increasing_cons at (reverse xs) d.descending (λ y c. d.above y ((Contains-reverse xs y).0 c)));
  above = λ x c. ⊎_elim (λ o. omega (arith, d.above x o)) (λ e. omega arith) (Contains-push_cases xs at x c);
}

lower : (from to : ℕ) (xs : List ℕ) → to ≤ from → IsDescendingFrom from xs → IsDescendingFrom to xs
lower from to xs h d = record { descending = d.descending; above = λ x c. omega (arith, d.above x c) }

left_descends : (r : Reach) (xs : List ℕ) (at : ℕ) → IsDescendingFrom (suc at) xs → IsDescendingFrom at (left_noted r xs at)
left_descends Left xs at d = pushed xs at d
left_descends Right xs at d = lower (suc at) at xs (omega arith) d
left_descends Both xs at d = lower (suc at) at xs (omega arith) d

right_descends : (r : Reach) (xs : List ℕ) (at : ℕ) → IsDescendingFrom (suc at) xs → IsDescendingFrom at (right_noted r xs at)
right_descends Left xs at d = lower (suc at) at xs (omega arith) d
right_descends Right xs at d = pushed xs at d
right_descends Both xs at d = lower (suc at) at xs (omega arith) d

pub orderly : (f g : Pending) (at : ℕ) (r : Reach) (next : Option (ℕ × Reach)) (left right : List ℕ) → IsBelow f at → Pops f g next →
    IsDescendingFrom (suc at) left → IsDescendingFrom (suc at) right → IsOrderly next g (left_noted r left at) (right_noted r right at)
orderly f g at r None left right below o dl dr = ((left_descends r left at dl).descending, (right_descends r right at dr).descending)
orderly f g at r (Some p) left right below o dl dr =
    let h : p.0 < at = below p.0 (some_side (f p.0) p.1 o.had) in
    record {
      below = λ x s. elim (ℕ_discrete x p.0) [
        | yes e ↦ absurd (no_side (g x) (ap g e ∙ o.taken) s)
        | no n ↦ let m : x ≤ p.0 = at_most f g p o x (⊎_elim (λ l. inl (subst IsLeftAt (o.rest x n) l)) (λ l. inr (subst IsRightAt (o.rest x n) l)) s) in omega arith
      ];
      left_order = lower at (suc p.0) (left_noted r left at) h (left_descends r left at dl);
      right_order = lower at (suc p.0) (right_noted r right at) h (right_descends r right at dr);
    }

-- what is noted is no higher than the position that the walk leaves
left_up_to : (r : Reach) (xs : List ℕ) (at top : ℕ) → at ≤ top → All (λ x. x ≤ top) xs → All (λ x. x ≤ top) (left_noted r xs at)
left_up_to Left xs at top h a = All-push (λ x. x ≤ top) xs at a h
left_up_to Right xs at top h a = a
left_up_to Both xs at top h a = a

right_up_to : (r : Reach) (xs : List ℕ) (at top : ℕ) → at ≤ top → All (λ x. x ≤ top) xs → All (λ x. x ≤ top) (right_noted r xs at)
right_up_to Left xs at top h a = a
right_up_to Right xs at top h a = All-push (λ x. x ≤ top) xs at a h
right_up_to Both xs at top h a = a

pub noted_up_to : (r : Reach) (left right : List ℕ) (at top : ℕ) → at ≤ top → AreUpTo top left right → AreUpTo top (left_noted r left at) (right_noted r right at)
noted_up_to r left right at top h a = record { left_up_to = left_up_to r left at top h a.left_up_to; right_up_to = right_up_to r right at top h a.right_up_to }

pub none_up_to : (top : ℕ) (left right : List ℕ) → left ≡ [] → right ≡ [] → AreUpTo top left right
none_up_to top left right e h = record {
  left_up_to = subst (All (λ x. x ≤ top)) (sym e) (All-nil (λ x. x ≤ top));
  right_up_to = subst (All (λ x. x ≤ top)) (sym h) (All-nil (λ x. x ≤ top));
}

pub All-reversed : (P : ℕ → Type 0) (xs : List ℕ) → All P xs → All P (reverse xs)
All-reversed P xs a = All-permutation P xs (reverse xs) (IsPermutation-reverse xs) a

floor_turned : (parents : ℕ → List ℕ) (a b low : ℕ) → ReachesFrom parents a b low → ReachesFrom parents b a low
floor_turned parents a b low floor = record {
  uncommon = λ x s. floor.uncommon x (⊎_elim inr inl s);
  parent = λ x p s. floor.parent x p (⊎_elim inr inl s);
}

pub begun_left : (parents : ℕ → List ℕ) → ParentsAreEarlier parents → (a b low : ℕ) → b < a → ReachesFrom parents a b low → (f : Pending) →
    ((x : ℕ) → ¬ IsLeftAt (f x)) → ((x : ℕ) → IsRightAt (f x) ↔ (x ≡ b)) → StandsAt parents a b low a Left f [] []
begun_left parents early a b low h floor f lefts rights =
    let n : a ≢ b = λ e. omega arith in
    let m : b ≢ a = λ e. omega arith in
    let ra = start_reached parents early a b low n floor in
    let rb = start_reached parents early b a low m (floor_turned parents a b low floor) in
    record {
      reach_at = ra;
      walked = record {
        left_ancestors = λ x l. elim (ℕ_discrete x a) [ yes e ↦ ancestor_at (sym e) | no ne ↦ absurd (lefts x (subst IsLeftAt (with_other f a Left x ne) l)) ];
        right_ancestors = λ x l. elim (ℕ_discrete x a) [
          | yes e ↦ absurd (subst IsRightAt (ap (with_position f a Left) e ∙ with_here f a Left) l)
          | no ne ↦ ancestor_at (sym ((rights x).0 (subst IsRightAt (with_other f a Left x ne) l)))
        ];
        left_rest = λ x g k. (a, subst IsLeftAt (sym (with_here f a Left)) tt, k);
        right_rest = λ x g k. (b, subst IsRightAt (sym (with_other f a Left b m)) ((rights b).1 refl), k);
        single_reach = λ x s. elim (ℕ_discrete x a) [
          | yes e ↦ subst (λ y. low ≤ y) (sym e) ra
          | no ne ↦ ⊎_elim (λ p. absurd (lefts x (subst IsLeftAt (with_other f a Left x ne) p.0)))
              (λ p. subst (λ y. low ≤ y) (sym ((rights x).0 (subst IsRightAt (with_other f a Left x ne) p.0))) rb) (single_sides (with_position f a Left x) s)
        ];
        left_found = λ x. (λ c. absurd (Contains-nil c), λ p. absurd (omega (arith, p.0, IsAncestor-le early p.1.0)));
        right_found = λ x. (λ c. absurd (Contains-nil c), λ p. absurd (omega (arith, p.0, IsAncestor-le early p.1.0)));
      };
    }

pub begun_right : (parents : ℕ → List ℕ) → ParentsAreEarlier parents → (a b low : ℕ) → a < b → ReachesFrom parents a b low → (f : Pending) →
    ((x : ℕ) → IsLeftAt (f x) ↔ (x ≡ a)) → ((x : ℕ) → ¬ IsRightAt (f x)) → StandsAt parents a b low b Right f [] []
begun_right parents early a b low h floor f lefts rights =
    let n : a ≢ b = λ e. omega arith in
    let m : b ≢ a = λ e. omega arith in
    let ra = start_reached parents early a b low n floor in
    let rb = start_reached parents early b a low m (floor_turned parents a b low floor) in
    record {
      reach_at = rb;
      walked = record {
        left_ancestors = λ x l. elim (ℕ_discrete x b) [
          | yes e ↦ absurd (subst IsLeftAt (ap (with_position f b Right) e ∙ with_here f b Right) l)
          | no ne ↦ ancestor_at (sym ((lefts x).0 (subst IsLeftAt (with_other f b Right x ne) l)))
        ];
        right_ancestors = λ x l. elim (ℕ_discrete x b) [ yes e ↦ ancestor_at (sym e) | no ne ↦ absurd (rights x (subst IsRightAt (with_other f b Right x ne) l)) ];
        left_rest = λ x g k. (a, subst IsLeftAt (sym (with_other f b Right a n)) ((lefts a).1 refl), k);
        right_rest = λ x g k. (b, subst IsRightAt (sym (with_here f b Right)) tt, k);
        single_reach = λ x s. elim (ℕ_discrete x b) [
          | yes e ↦ subst (λ y. low ≤ y) (sym e) rb
          | no ne ↦ ⊎_elim (λ p. subst (λ y. low ≤ y) (sym ((lefts x).0 (subst IsLeftAt (with_other f b Right x ne) p.0))) ra)
              (λ p. absurd (rights x (subst IsRightAt (with_other f b Right x ne) p.0))) (single_sides (with_position f b Right x) s)
        ];
        left_found = λ x. (λ c. absurd (Contains-nil c), λ p. absurd (omega (arith, p.0, IsAncestor-le early p.1.0)));
        right_found = λ x. (λ c. absurd (Contains-nil c), λ p. absurd (omega (arith, p.0, IsAncestor-le early p.1.0)));
      };
    }

-- the list that the walk hands out
pub listed_found : (P : ℕ → Type 0) (xs : List ℕ) → IsStrictlyIncreasing (reverse xs) → ((x : ℕ) → Contains xs x ↔ P x) → IsAscendingListOf P (reverse xs)
listed_found P xs inc e = record {
  ascending = inc;
  exact = λ x. (λ c. (e x).0 ((Contains-reverse xs x).0 c), λ p. (Contains-reverse xs x).1 ((e x).1 p));
}

-- after the first position from the right, and from the left
pub first_right : (f g : Pending) (b : ℕ) → ((x : ℕ) → f x ≡ None) →
    ((x : ℕ) → IsLeftAt (g x) ↔ (IsLeftAt (f x) ⊎ ((x ≡ b) × IsFromLeft Right))) → ((x : ℕ) → IsRightAt (g x) ↔ (IsRightAt (f x) ⊎ ((x ≡ b) × IsFromRight Right))) →
    ((x : ℕ) → ¬ IsLeftAt (g x)) × ((x : ℕ) → IsRightAt (g x) ↔ (x ≡ b))
first_right f g b none ls rs = (
  λ x l. ⊎_elim (λ o. subst IsLeftAt (none x) o) (λ p. p.1) ((ls x).0 l),
  λ x. (λ k. ⊎_elim (λ o. absurd (subst IsRightAt (none x) o)) (λ p. p.0) ((rs x).0 k), λ e. (rs x).1 (inr (e, tt))),
)

pub first_left : (f g : Pending) (a : ℕ) → ((x : ℕ) → f x ≡ None) →
    ((x : ℕ) → IsLeftAt (g x) ↔ (IsLeftAt (f x) ⊎ ((x ≡ a) × IsFromLeft Left))) → ((x : ℕ) → IsRightAt (g x) ↔ (IsRightAt (f x) ⊎ ((x ≡ a) × IsFromRight Left))) →
    ((x : ℕ) → IsLeftAt (g x) ↔ (x ≡ a)) × ((x : ℕ) → ¬ IsRightAt (g x))
first_left f g a none ls rs = (
  λ x. (λ k. ⊎_elim (λ o. absurd (subst IsLeftAt (none x) o)) (λ p. p.0) ((ls x).0 k), λ e. (ls x).1 (inr (e, tt))),
  λ x l. ⊎_elim (λ o. subst IsRightAt (none x) o) (λ p. p.1) ((rs x).0 l),
)

pub begun_as : (parents : ℕ → List ℕ) (a b low : ℕ) (p q : ℕ × Reach) (f g : Frontier) (left right : List ℕ) → p ≡ q → f ≡ g → left ≡ [] → right ≡ [] →
    StandsAt parents a b low q.0 q.1 (pending_of g) [] [] → StandsAt parents a b low p.0 p.1 (pending_of f) left right
begun_as parents a b low p q f g left right e h i j s =
    subst (λ (t : ℕ × Reach). StandsAt parents a b low t.0 t.1 (pending_of f) left right) (sym e)
    (subst (λ (t : Frontier). StandsAt parents a b low q.0 q.1 (pending_of t) left right) (sym h)
    (subst (λ (t : List ℕ). StandsAt parents a b low q.0 q.1 (pending_of g) t right) (sym i)
    (subst (λ (t : List ℕ). StandsAt parents a b low q.0 q.1 (pending_of g) [] t) (sym j) s)))
