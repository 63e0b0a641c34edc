-- One step of the walk, its start and its end.
use Rattle.std.specs.Prelude.{Contains}
use Rattle.std.proofs.Common.{◌≡◌, ◌≢◌, ◌↔◌, ℕ, suc, ◌-◌, ◌<◌, ◌≤◌, List, [], ◌∷◌, ◌++◌, ◌⊎◌, cond, Option, Some, None, refl, sym, ◌∙◌, ap, inl, inr, arith, subst, ⊎_elim, eq-eqb, ne_eqb}
use Rattle.std.proofs.Math.Decide.{ℕ_discrete}
use Rattle.std.proofs.lemmas.List.Elements.{Contains-push, Contains-append_left, Contains-push_cases}
use Rattle.mtn_ancestry.specs.Ancestors.{IsAncestor, IsUncommon, ParentsAreEarlier, ReachesFrom}
use Rattle.mtn_ancestry.specs.Ancestors.IsAncestor.{itself, through}
use Rattle.mtn_ancestry.specs.declared.frontier.Reach.{Reach}
use Rattle.mtn_ancestry.specs.declared.frontier.Reach.TheVariants.{Left, Right, Both}
use Rattle.mtn_ancestry.specs.Walking.{Pending, IsFromLeft, IsFromRight, IsLeftAt, IsRightAt, IsSingle, IsBelow, IsWalked, with_position}
use Rattle.mtn_ancestry.proofs.Ancestry.{IsAncestor-trans, IsAncestor-cases, IsAncestor-le, tell_ancestor}

pub with_here : (f : Pending) (at : ℕ) (r : Reach) → with_position f at r at ≡ Some r
with_here f at r = ap (λ b. cond b (Some r) (f at)) (eq-eqb at at refl)

pub with_other : (f : Pending) (at : ℕ) (r : Reach) (x : ℕ) → x ≢ at → with_position f at r x ≡ f x
with_other f at r x n = ap (λ b. cond b (Some r) (f x)) (ne_eqb at x (λ e. n (sym e)))

-- what is single is from one side and not from the other
pub single_sides : (o : Option Reach) → IsSingle o → (IsLeftAt o × ¬ IsRightAt o) ⊎ (IsRightAt o × ¬ IsLeftAt o)
single_sides None s = absurd s
single_sides (Some Left) s = inl (tt, λ r. r)
single_sides (Some Right) s = inr (tt, λ l. l)
single_sides (Some Both) s = absurd s

sides_single : (o : Option Reach) → ¬ IsSingle o → IsLeftAt o ↔ IsRightAt o
sides_single None n = (λ l. l, λ r. r)
sides_single (Some Left) n = absurd (n tt)
sides_single (Some Right) n = absurd (n tt)
sides_single (Some Both) n = (λ l. l, λ r. r)

left_single : (o : Option Reach) → IsLeftAt o → ¬ IsRightAt o → IsSingle o
left_single None l r = absurd l
left_single (Some Left) l r = tt
left_single (Some Right) l r = absurd l
left_single (Some Both) l r = absurd (r tt)

right_single : (o : Option Reach) → IsRightAt o → ¬ IsLeftAt o → IsSingle o
right_single None r l = absurd r
right_single (Some Left) r l = absurd r
right_single (Some Right) r l = tt
right_single (Some Both) r l = absurd (l tt)

module _ (parents : ℕ → List ℕ) (early : ParentsAreEarlier parents) (a b low : ℕ) where
  -- what is pending at the greatest position is final
  module _ (at : ℕ) (f : Pending) (r : Reach) (left right : List ℕ) (below : IsBelow f at)
      (w : IsWalked parents a b low (suc at) (with_position f at r) left right) where
    not_right : ¬ IsFromRight r → ¬ IsAncestor parents at b
    not_right n k =
        let t = w.right_rest at (omega arith) k in
        elim (ℕ_discrete t.0 at) [
          | yes e ↦ n (subst IsRightAt (ap (with_position f at r) e ∙ with_here f at r) t.1)
          | no ne ↦ omega (arith, below t.0 (inr (subst IsRightAt (with_other f at r t.0 ne) t.1)), IsAncestor-le early t.2)
        ]

    not_left : ¬ IsFromLeft r → ¬ IsAncestor parents at a
    not_left n k =
        let t = w.left_rest at (omega arith) k in
        elim (ℕ_discrete t.0 at) [
          | yes e ↦ n (subst IsLeftAt (ap (with_position f at r) e ∙ with_here f at r) t.1)
          | no ne ↦ omega (arith, below t.0 (inl (subst IsLeftAt (with_other f at r t.0 ne) t.1)), IsAncestor-le early t.2)
        ]

    is_left : IsFromLeft r → IsAncestor parents at a
    is_left l = w.left_ancestors at (subst IsLeftAt (sym (with_here f at r)) l)

    is_right : IsFromRight r → IsAncestor parents at b
    is_right l = w.right_ancestors at (subst IsRightAt (sym (with_here f at r)) l)

    apart : (x : ℕ) → IsLeftAt (f x) ⊎ IsRightAt (f x) → with_position f at r x ≡ f x
    apart x s = with_other f at r x (λ e. let h : x < at = below x s in omega arith)

    module _ (g : Pending)
        (lefts : (x : ℕ) → IsLeftAt (g x) ↔ (IsLeftAt (f x) ⊎ (Contains (parents at) x × IsFromLeft r)))
        (rights : (x : ℕ) → IsRightAt (g x) ↔ (IsRightAt (f x) ⊎ (Contains (parents at) x × IsFromRight r)))
        (floor : ReachesFrom parents a b low) where
      lefts_rest : (x : ℕ) → x < at → IsAncestor parents x a → (y : ℕ) × IsLeftAt (g y) × IsAncestor parents x y
      lefts_rest x h k =
          let t = w.left_rest x (omega arith) k in
          elim (ℕ_discrete t.0 at) [
            | yes e ↦
                let l : IsFromLeft r = subst IsLeftAt (ap (with_position f at r) e ∙ with_here f at r) t.1 in
                ⊎_elim (λ d. absurd (omega arith)) (λ q. (q.0, (lefts q.0).1 (inr (q.1, l)), q.2)) (IsAncestor-cases (subst (IsAncestor parents x) e t.2))
            | no n ↦ (t.0, (lefts t.0).1 (inl (subst IsLeftAt (with_other f at r t.0 n) t.1)), t.2)
          ]

      rights_rest : (x : ℕ) → x < at → IsAncestor parents x b → (y : ℕ) × IsRightAt (g y) × IsAncestor parents x y
      rights_rest x h k =
          let t = w.right_rest x (omega arith) k in
          elim (ℕ_discrete t.0 at) [
            | yes e ↦
                let l : IsFromRight r = subst IsRightAt (ap (with_position f at r) e ∙ with_here f at r) t.1 in
                ⊎_elim (λ d. absurd (omega arith)) (λ q. (q.0, (rights q.0).1 (inr (q.1, l)), q.2)) (IsAncestor-cases (subst (IsAncestor parents x) e t.2))
            | no n ↦ (t.0, (rights t.0).1 (inl (subst IsRightAt (with_other f at r t.0 n) t.1)), t.2)
          ]

      left_reach : (x : ℕ) → IsLeftAt (g x) → ¬ IsRightAt (g x) → low ≤ x
      left_reach x l n =
          ⊎_elim
          (λ o. w.single_reach x (subst IsSingle (sym (apart x (inl o))) (left_single (f x) o (λ k. n ((rights x).1 (inl k))))))
          (λ p. floor.parent at x (inl (is_left p.1, not_right (λ k. n ((rights x).1 (inr (p.0, k)))))) p.0)
          ((lefts x).0 l)

      right_reach : (x : ℕ) → IsRightAt (g x) → ¬ IsLeftAt (g x) → low ≤ x
      right_reach x l n =
          ⊎_elim
          (λ o. w.single_reach x (subst IsSingle (sym (apart x (inr o))) (right_single (f x) o (λ k. n ((lefts x).1 (inl k))))))
          (λ p. floor.parent at x (inr (is_right p.1, not_left (λ k. n ((lefts x).1 (inr (p.0, k)))))) p.0)
          ((rights x).0 l)

      -- after the position is left, and its parents are pending
      pub stepped : (left' right' : List ℕ) →
          ((x : ℕ) → Contains left' x ↔ ((at ≤ x) × IsUncommon parents a b x)) →
          ((x : ℕ) → Contains right' x ↔ ((at ≤ x) × IsUncommon parents b a x)) →
          IsWalked parents a b low at g left' right'
      stepped left' right' fl fr = record {
        left_ancestors = λ x l. ⊎_elim (λ o. w.left_ancestors x (subst IsLeftAt (sym (apart x (inl o))) o)) (λ p. IsAncestor-trans (is_left p.1) (through p.0 itself)) ((lefts x).0 l);
        right_ancestors = λ x l. ⊎_elim (λ o. w.right_ancestors x (subst IsRightAt (sym (apart x (inr o))) o)) (λ p. IsAncestor-trans (is_right p.1) (through p.0 itself)) ((rights x).0 l);
        left_rest = lefts_rest;
        right_rest = rights_rest;
        single_reach = λ x s. ⊎_elim (λ p. left_reach x p.0 p.1) (λ p. right_reach x p.0 p.1) (single_sides (g x) s);
        left_found = fl;
        right_found = fr;
      }

    -- the position joins the left list exactly where it came from the left alone
    pub left_noted : r ≡ Left → (x : ℕ) → Contains (left ++ at ∷ []) x ↔ ((at ≤ x) × IsUncommon parents a b x)
    left_noted e x =
        let u : IsUncommon parents a b at = (is_left (subst IsFromLeft (sym e) tt), not_right (λ k. subst IsFromRight e k)) in (
          λ c. ⊎_elim (λ o. let h = (w.left_found x).0 o in (omega (arith, h.0), h.1)) (λ d. (omega (arith, d), subst (IsUncommon parents a b) d u)) (Contains-push_cases left at x c),
          λ p. elim (ℕ_discrete x at) [
            | yes d ↦ subst (Contains (left ++ at ∷ [])) (sym d) (Contains-push left at)
            | no n ↦ Contains-append_left left (at ∷ []) x ((w.left_found x).1 (let h : at ≤ x = p.0 in omega arith, p.1))
          ],
        )

    pub left_kept : IsFromRight r → (x : ℕ) → Contains left x ↔ ((at ≤ x) × IsUncommon parents a b x)
    left_kept k x = (
      λ c. let h = (w.left_found x).0 c in (omega (arith, h.0), h.1),
      λ p. elim (ℕ_discrete x at) [
        | yes d ↦ absurd (p.1.1 (subst (λ y. IsAncestor parents y b) (sym d) (is_right k)))
        | no n ↦ (w.left_found x).1 (let h : at ≤ x = p.0 in omega arith, p.1)
      ],
    )

    pub right_noted : r ≡ Right → (x : ℕ) → Contains (right ++ at ∷ []) x ↔ ((at ≤ x) × IsUncommon parents b a x)
    right_noted e x =
        let u : IsUncommon parents b a at = (is_right (subst IsFromRight (sym e) tt), not_left (λ k. subst IsFromLeft e k)) in (
          λ c. ⊎_elim (λ o. let h = (w.right_found x).0 o in (omega (arith, h.0), h.1)) (λ d. (omega (arith, d), subst (IsUncommon parents b a) d u)) (Contains-push_cases right at x c),
          λ p. elim (ℕ_discrete x at) [
            | yes d ↦ subst (Contains (right ++ at ∷ [])) (sym d) (Contains-push right at)
            | no n ↦ Contains-append_left right (at ∷ []) x ((w.right_found x).1 (let h : at ≤ x = p.0 in omega arith, p.1))
          ],
        )

    pub right_kept : IsFromLeft r → (x : ℕ) → Contains right x ↔ ((at ≤ x) × IsUncommon parents b a x)
    right_kept k x = (
      λ c. let h = (w.right_found x).0 c in (omega (arith, h.0), h.1),
      λ p. elim (ℕ_discrete x at) [
        | yes d ↦ absurd (p.1.1 (subst (λ y. IsAncestor parents y a) (sym d) (is_left k)))
        | no n ↦ (w.right_found x).1 (let h : at ≤ x = p.0 in omega arith, p.1)
      ],
    )

  -- nothing is pending between the greatest pending position and the last that was left
  pub lowered : (from at : ℕ) (f : Pending) (left right : List ℕ) → IsWalked parents a b low from f left right → at < from →
      ((x : ℕ) → IsLeftAt (f x) ⊎ IsRightAt (f x) → x ≤ at) → IsWalked parents a b low (suc at) f left right
  lowered from at f left right w h top = record {
    left_ancestors = w.left_ancestors;
    right_ancestors = w.right_ancestors;
    left_rest = λ x l k. w.left_rest x (omega arith) k;
    right_rest = λ x l k. w.right_rest x (omega arith) k;
    single_reach = w.single_reach;
    left_found = λ x. (
      λ c. let p = (w.left_found x).0 c in (omega (arith, p.0), p.1),
      λ p. (w.left_found x).1 (
        elim (ℕ_discrete (from - x) 0) [
          | yes e ↦ omega arith
          | no n ↦ let t = w.left_rest x (omega arith) p.1.0 in let g : suc at ≤ x = p.0 in absurd (omega (arith, top t.0 (inl t.1), IsAncestor-le early t.2))
        ],
        p.1,
      ),
    );
    right_found = λ x. (
      λ c. let p = (w.right_found x).0 c in (omega (arith, p.0), p.1),
      λ p. (w.right_found x).1 (
        elim (ℕ_discrete (from - x) 0) [
          | yes e ↦ omega arith
          | no n ↦ let t = w.right_rest x (omega arith) p.1.0 in let g : suc at ≤ x = p.0 in absurd (omega (arith, top t.0 (inr t.1), IsAncestor-le early t.2))
        ],
        p.1,
      ),
    );
  }

  pub same_walk : (from : ℕ) (f g : Pending) (left right : List ℕ) → ((x : ℕ) → g x ≡ f x) → IsWalked parents a b low from f left right → IsWalked parents a b low from g left right
  same_walk from f g left right e w = record {
    left_ancestors = λ x l. w.left_ancestors x (subst IsLeftAt (e x) l);
    right_ancestors = λ x l. w.right_ancestors x (subst IsRightAt (e x) l);
    left_rest = λ x l k. let t = w.left_rest x l k in (t.0, subst IsLeftAt (sym (e t.0)) t.1, t.2);
    right_rest = λ x l k. let t = w.right_rest x l k in (t.0, subst IsRightAt (sym (e t.0)) t.1, t.2);
    single_reach = λ x s. w.single_reach x (subst IsSingle (e x) s);
    left_found = w.left_found;
    right_found = w.right_found;
  }

  -- where nothing single is pending, all is found
  pub all_found : (from : ℕ) (f : Pending) (left right : List ℕ) → IsWalked parents a b low from f left right → ((x : ℕ) → ¬ IsSingle (f x)) →
      ((x : ℕ) → Contains left x ↔ IsUncommon parents a b x) × ((x : ℕ) → Contains right x ↔ IsUncommon parents b a x)
  all_found from f left right w none = (
    λ x. (
      λ c. ((w.left_found x).0 c).1,
      λ u. (w.left_found x).1 (
        elim (ℕ_discrete (from - x) 0) [
          | yes e ↦ omega arith
          | no n ↦ let t = w.left_rest x (omega arith) u.0 in
              absurd (u.1 (IsAncestor-trans (w.right_ancestors t.0 ((sides_single (f t.0) (none t.0)).0 t.1)) t.2))
        ],
        u,
      ),
    ),
    λ x. (
      λ c. ((w.right_found x).0 c).1,
      λ u. (w.right_found x).1 (
        elim (ℕ_discrete (from - x) 0) [
          | yes e ↦ omega arith
          | no n ↦ let t = w.right_rest x (omega arith) u.0 in
              absurd (u.1 (IsAncestor-trans (w.left_ancestors t.0 ((sides_single (f t.0) (none t.0)).1 t.1)) t.2))
        ],
        u,
      ),
    ),
  )

-- two unlike positions stand where the walk may go
pub start_reached : (parents : ℕ → List ℕ) → ParentsAreEarlier parents → (a b low : ℕ) → a ≢ b → ReachesFrom parents a b low → low ≤ a
start_reached parents early a b low n floor =
    elim (tell_ancestor early b a) [
      | no m ↦ floor.uncommon a (inl (itself, m))
      | yes k ↦ path k (itself, λ j. n (let h = IsAncestor-le early k in let g = IsAncestor-le early j in omega arith))
    ]
  where
    path : {y : ℕ} → IsAncestor parents a y → IsUncommon parents b a y → low ≤ a
    path itself u = absurd (u.1 itself)
    path (through {r = y} {p = p} c k) u =
        elim (tell_ancestor early a p) [
          | yes j ↦ let h : low ≤ p = floor.parent y p (inr u) c in omega (arith, IsAncestor-le early j, IsAncestor-le early k)
          | no m ↦ path k (IsAncestor-trans u.0 (through c itself), m)
        ]
