-- A walk over two lists by ascending keys: what is made of each key, by what both lists have of it.
use Rattle.std.specs.Prelude.{map, find, slice_get, take, drop}
use Rattle.std.specs.List.{list_all}
use Rattle.std.specs.declared.cmp.Ordering.{Ordering}
use Rattle.std.specs.declared.cmp.Ordering.TheVariants.{Less, Equal}
use Rattle.std.specs.Ordering.{is_lt}
use Rattle.std.specs.Cmp.{IsTotalOrder, first_so, second_so, tied_itself}
use Rattle.std.proofs.Common.{◌≡◌, ◌≢◌, ℕ, zero, suc, Bool, true, false, cond, List, [], ◌∷◌, ◌++◌, Option, Some, None, refl, sym, ◌∙◌, ap, subst, inl, inr, ◌⊎◌}
use Rattle.std.proofs.lemmas.List.{append-nil}
use Rattle.mtn_base.specs.Lists.{rises}
use Rattle.mtn_base.proofs.Finding.{Split, later}
use Rattle.mtn_base.proofs.Members.{head, split_cons, of_append, in_right}
use Rattle.mtn_base.proofs.Sorting.{no_split, lt_was, all_at}
use Rattle.mtn_base.proofs.Tests.{both_true, told}

module _ {X : Type 0} (f : X → Bool) where
  -- a search of two lists one after the other
  pub find_second : (xs ys : List X) → find f xs ≡ None → find f (xs ++ ys) ≡ find f ys
  find_second [] ys h = refl
  find_second (x ∷ xs) ys h =
      elim (f x) as (λ b. f x ≡ b → cond b (Some x) (find f xs) ≡ None → cond b (Some x) (find f (xs ++ ys)) ≡ find f ys) [
        | true ↦ λ e g. absurd cc
        | false ↦ λ e g. find_second xs ys g
      ] refl h

  pub find_first : (xs ys : List X) → find f ys ≡ None → find f (xs ++ ys) ≡ find f xs
  find_first [] ys h = h
  find_first (x ∷ xs) ys h = elim (f x) as (λ b. cond b (Some x) (find f (xs ++ ys)) ≡ cond b (Some x) (find f xs)) [ true ↦ refl | false ↦ find_first xs ys h ]

  -- a search finds nothing where nothing passes
  pub find_nothing : (xs : List X) → ((x : X) → Split xs x → f x ≡ false) → find f xs ≡ None
  find_nothing [] h = refl
  find_nothing (x ∷ xs) h = ap (λ b. cond b (Some x) (find f xs)) (h x (head x xs)) ∙ find_nothing xs (λ y s. h y (later x xs y s))

module _ {X : Type 0} where
  -- one more element is taken
  pub take_more : (xs : List X) (i : ℕ) (x : X) → slice_get xs i ≡ Some x → take (suc i) xs ≡ take i xs ++ x ∷ []
  take_more [] i x h = absurd cc
  take_more (y ∷ xs) zero x h = let e : y ≡ x = cc in ap (λ z. z ∷ []) e
  take_more (y ∷ xs) (suc i) x h = ap (λ l. y ∷ l) (take_more xs i x h)

  pub drop_at : (xs : List X) (i : ℕ) (x : X) → slice_get xs i ≡ Some x → drop i xs ≡ x ∷ drop (suc i) xs
  drop_at [] i x h = absurd cc
  drop_at (y ∷ xs) zero x h = let e : y ≡ x = cc in ap (λ z. z ∷ xs) e
  drop_at (y ∷ xs) (suc i) x h = drop_at xs i x h

  pub drop_end : (xs : List X) (i : ℕ) → slice_get xs i ≡ None → drop i xs ≡ []
  drop_end [] zero h = refl
  drop_end [] (suc i) h = refl
  drop_end (y ∷ xs) zero h = absurd cc
  drop_end (y ∷ xs) (suc i) h = drop_end xs i h

  pub take_end : (xs : List X) (i : ℕ) → slice_get xs i ≡ None → take i xs ≡ xs
  take_end [] zero h = refl
  take_end [] (suc i) h = refl
  take_end (y ∷ xs) zero h = absurd cc
  take_end (y ∷ xs) (suc i) h = ap (λ l. y ∷ l) (take_end xs i h)

module _ {K : Type 0} (cmp : K → K → Ordering) (same : K → K → Bool) (o : IsTotalOrder cmp)
    (same-is : (a b : K) → same a b ≡ true → a ≡ b) (same-self : (a : K) → same a a ≡ true) where
  pub less_apart : (a b : K) → cmp a b ≡ Less → same a b ≡ false
  less_apart a b lt = elim (told (same a b)) [
    | inl e ↦ absurd (let t : cmp a b ≡ Equal = ap (cmp a) (sym (same-is a b e)) ∙ tied_itself o a in cc)
    | inr e ↦ e
  ]

  pub unlike : (a b : K) → a ≢ b → same a b ≡ false
  unlike a b ne = elim (told (same a b)) [ inl e ↦ absurd (ne (same-is a b e)) | inr e ↦ e ]

  module _ {X : Type 0} (key : X → K) where
    abbrev pub keyed : K → X → Bool
    keyed q x = same (key x) q

    -- no element has the key, where all are below it
    pub none_below : (xs : List X) (q : K) → ((x : X) → Split xs x → cmp (key x) q ≡ Less) → find (keyed q) xs ≡ None
    none_below xs q low = find_nothing (keyed q) xs (λ x s. less_apart (key x) q (low x s))

    -- in a list with ascending keys, what stands before a place is below what stands from it on
    pub in_two : (xs : List X) → rises cmp (map key xs) ≡ true → (i : ℕ) (x y : X) → Split (take i xs) x → Split (drop i xs) y → cmp (key x) (key y) ≡ Less
    in_two [] h zero x y s t = absurd (no_split x s)
    in_two [] h (suc i) x y s t = absurd (no_split x s)
    in_two (z ∷ xs) h zero x y s t = absurd (no_split x s)
    in_two (z ∷ xs) h (suc i) x y s t =
        let low = first_so (list_all (λ l. is_lt (cmp (key z) l)) (map key xs)) _ h in
        elim (split_cons z (take i xs) x s) [
          | inl e ↦ subst (λ w. cmp (key w) (key y) ≡ Less) e (lt_was _ (all_at (λ l. is_lt (cmp (key z) l)) key xs y low (of_drop xs i y t)))
          | inr u ↦ in_two xs (second_so (list_all (λ l. is_lt (cmp (key z) l)) (map key xs)) _ h) i x y u t
        ]
      where
        of_drop : (ys : List X) (k : ℕ) (w : X) → Split (drop k ys) w → Split ys w
        of_drop [] zero w u = u
        of_drop [] (suc k) w u = absurd (no_split w u)
        of_drop (v ∷ ys) zero w u = u
        of_drop (v ∷ ys) (suc k) w u = later v ys w (of_drop ys k w u)

    abbrev pub tells : K → K → Type 0
    tells q k = cmp q k ≡ Less

    -- q is the key at a place, or below it
    pub data Taking (xs : List X) (i : ℕ) (q : K) : Option X → ℕ → Type 0 where
      taken : {x : X} → slice_get xs i ≡ Some x → key x ≡ q → Taking xs i q (Some x) (suc i)
      passed : ((x : X) → slice_get xs i ≡ Some x → cmp q (key x) ≡ Less) → Taking xs i q None i

    module _ (xs : List X) (rising : rises cmp (map key xs) ≡ true) where
      -- what is left is above q
      pub rest_above : {i : ℕ} {q : K} {ox : Option X} {j : ℕ} → Taking xs i q ox j → (x : X) → Split (drop j xs) x → cmp q (key x) ≡ Less
      rest_above {i = i} {q = q} (taken {x = y} at is) x s =
          subst (λ k. cmp k (key x) ≡ Less) is
          (in_two xs rising (suc i) y x (subst (λ l. Split l y) (sym (take_more xs i y at)) (in_right (take i xs) (y ∷ []) y (head y []))) s)
      rest_above {i = i} {q = q} (passed below) x s = go (slice_get xs i) refl
        where
          go : (m : Option X) → slice_get xs i ≡ m → cmp q (key x) ≡ Less
          go None e = absurd (no_split x (subst (λ l. Split l x) (drop_end xs i e) s))
          go (Some y) e = elim (split_cons y (drop (suc i) xs) x (subst (λ l. Split l x) (drop_at xs i y e) s)) [
            | inl g ↦ subst (λ w. cmp q (key w) ≡ Less) g (below y e)
            | inr u ↦ o.trans q (key y) (key x) (below y e)
                (in_two xs rising (suc i) y x (subst (λ l. Split l y) (sym (take_more xs i y e)) (in_right (take i xs) (y ∷ []) y (head y []))) u)
          ]

      pub rest_within : {i : ℕ} {q : K} {ox : Option X} {j : ℕ} → Taking xs i q ox j → (x : X) → Split (drop j xs) x → Split (drop i xs) x
      rest_within {i = i} (taken {x = y} at is) x s = subst (λ l. Split l x) (sym (drop_at xs i y at)) (later y (drop (suc i) xs) x s)
      rest_within (passed below) x s = s

      pub was_taken : {i : ℕ} {q : K} {ox : Option X} {j : ℕ} → Taking xs i q ox j → (x : X) → Split (take j xs) x → Split (take i xs) x ⊎ (key x ≡ q)
      was_taken {i = i} (taken {x = y} at is) x s = elim (of_append (take i xs) (y ∷ []) x (subst (λ l. Split l x) (take_more xs i y at) s)) [
        | inl u ↦ inl u
        | inr u ↦ inr (elim (split_cons y [] x u) [ inl e ↦ ap key (sym e) ∙ is | inr v ↦ absurd (no_split x v) ])
      ]
      was_taken (passed below) x s = inl s

      -- what is found at q, and at another key
      pub finds_here : {i : ℕ} {q : K} {ox : Option X} {j : ℕ} → Taking xs i q ox j → ((x : X) → Split (take i xs) x → cmp (key x) q ≡ Less) → find (keyed q) (take j xs) ≡ ox
      finds_here {i = i} {q = q} (taken {x = y} at is) low =
          ap (find (keyed q)) (take_more xs i y at)
          ∙ find_second (keyed q) (take i xs) (y ∷ []) (none_below (take i xs) q low)
          ∙ ap (λ b. cond b (Some y) None) (ap (λ k. same k q) is ∙ same-self q)
      finds_here {i = i} {q = q} (passed below) low = none_below (take i xs) q low

      pub finds_other : {i : ℕ} {q : K} {ox : Option X} {j : ℕ} → Taking xs i q ox j → (p : K) → q ≢ p → find (keyed p) (take j xs) ≡ find (keyed p) (take i xs)
      finds_other {i = i} {q = q} (taken {x = y} at is) p ne =
          ap (find (keyed p)) (take_more xs i y at)
          ∙ find_first (keyed p) (take i xs) (y ∷ []) (ap (λ b. cond b (Some y) None) (unlike (key y) p (λ e. ne (sym is ∙ e))))
      finds_other (passed below) p ne = refl

    -- one more element at the end, above all others
    pub rises_more : (xs : List X) (x : X) → rises cmp (map key xs) ≡ true → ((y : X) → Split xs y → cmp (key y) (key x) ≡ Less) → rises cmp (map key (xs ++ x ∷ [])) ≡ true
    rises_more [] x h low = refl
    rises_more (y ∷ xs) x h low =
        both_true _ _
        (all_more xs (first_so (list_all (λ l. is_lt (cmp (key y) l)) (map key xs)) _ h))
        (rises_more xs x (second_so (list_all (λ l. is_lt (cmp (key y) l)) (map key xs)) _ h) (λ z s. low z (later y xs z s)))
      where
        all_more : (zs : List X) → list_all (λ l. is_lt (cmp (key y) l)) (map key zs) ≡ true → list_all (λ l. is_lt (cmp (key y) l)) (map key (zs ++ x ∷ [])) ≡ true
        all_more [] g = both_true _ _ (ap is_lt (low y (head y xs))) refl
        all_more (z ∷ zs) g = both_true _ _ (first_so _ _ g) (all_more zs (second_so (is_lt (cmp (key y) (key z))) _ g))

  module _ {X Y Z : Type 0} (kx : X → K) (ky : Y → K) (kz : Z → K) (R : K → Option X → Option Y → Option Z → Type 0) (Good : Z → Type 0) (xs : List X) (ys : List Y) where
    -- What is made when the first i of xs and the first j of ys are done
    pub record IsMerged (i j : ℕ) (out : List Z) : Type 0 where
      pub rising : rises cmp (map kz out) ≡ true
      pub below_x : (z : Z) (x : X) → Split out z → Split (drop i xs) x → cmp (kz z) (kx x) ≡ Less
      pub below_y : (z : Z) (y : Y) → Split out z → Split (drop j ys) y → cmp (kz z) (ky y) ≡ Less
      pub x_below_y : (x : X) (y : Y) → Split (take i xs) x → Split (drop j ys) y → cmp (kx x) (ky y) ≡ Less
      pub y_below_x : (y : Y) (x : X) → Split (take j ys) y → Split (drop i xs) x → cmp (ky y) (kx x) ≡ Less
      pub made : (q : K) → R q (find (keyed kx q) (take i xs)) (find (keyed ky q) (take j ys)) (find (keyed kz q) out)
      pub good : (z : Z) → Split out z → Good z

    pub nothing_merged : ((q : K) → R q None None None) → IsMerged 0 0 []
    nothing_merged none = record {
      rising = refl;
      below_x = λ z x s. absurd (no_split z s);
      below_y = λ z y s. absurd (no_split z s);
      x_below_y = λ x y s. absurd (no_split x s);
      y_below_x = λ y x s. absurd (no_split y s);
      made = none;
      good = λ z s. absurd (no_split z s);
    }

    pub all_merged : (i j : ℕ) (out : List Z) → slice_get xs i ≡ None → slice_get ys j ≡ None → IsMerged i j out →
        (q : K) → R q (find (keyed kx q) xs) (find (keyed ky q) ys) (find (keyed kz q) out)
    all_merged i j out hx hy m q = subst (λ a. R q (find (keyed kx q) a) (find (keyed ky q) ys) (find (keyed kz q) out)) (take_end xs i hx)
        (subst (λ b. R q (find (keyed kx q) (take i xs)) (find (keyed ky q) b) (find (keyed kz q) out)) (take_end ys j hy) (m.made q))

    -- what is made at a key, at most one
    pub data IsMadeAt (q : K) : Option Z → List Z → Type 0 where
      nothing : IsMadeAt q None []
      one : {z : Z} → kz z ≡ q → Good z → IsMadeAt q (Some z) (z ∷ [])

    module _ (rx : rises cmp (map kx xs) ≡ true) (ry : rises cmp (map ky ys) ≡ true) where
      module _ (i j : ℕ) (out : List Z) (m : IsMerged i j out) (q : K) (ox : Option X) (oy : Option Y) (oz : Option Z) (i' j' : ℕ) (more : List Z)
          (tx : Taking kx xs i q ox i') (ty : Taking ky ys j q oy j') (at : IsMadeAt q oz more) (is : R q ox oy oz)
          (low_x : (x : X) → Split (take i xs) x → cmp (kx x) q ≡ Less) (low_y : (y : Y) → Split (take j ys) y → cmp (ky y) q ≡ Less)
          (low_z : (z : Z) → Split out z → cmp (kz z) q ≡ Less) where
        new_key : (o : Option Z) (l : List Z) → IsMadeAt q o l → (z : Z) → Split l z → (kz z ≡ q) × Good z
        new_key o l nothing z s = absurd (no_split z s)
        new_key o l (one {z = w} e g) z s = elim (split_cons w [] z s) [
          | inl d ↦ subst (λ v. (kz v ≡ q) × Good v) d (e, g)
          | inr u ↦ absurd (no_split z u)
        ]

        was : (z : Z) → Split (out ++ more) z → Split out z ⊎ ((kz z ≡ q) × Good z)
        was z s = elim (of_append out more z s) [ inl u ↦ inl u | inr u ↦ inr (new_key oz more at z u) ]

        rising_more : (o : Option Z) (l : List Z) → IsMadeAt q o l → rises cmp (map kz (out ++ l)) ≡ true
        rising_more o l nothing = ap (λ l. rises cmp (map kz l)) (append-nil out) ∙ m.rising
        rising_more o l (one {z = z} e g) = rises_more kz out z m.rising (λ w s. subst (λ k. cmp (kz w) k ≡ Less) (sym e) (low_z w s))

        find_here : (o : Option Z) (l : List Z) → IsMadeAt q o l → find (keyed kz q) (out ++ l) ≡ o
        find_here o l nothing = find_second (keyed kz q) out [] (none_below kz out q low_z)
        find_here o l (one {z = z} e g) = find_second (keyed kz q) out (z ∷ []) (none_below kz out q low_z) ∙ ap (λ b. cond b (Some z) None) (ap (λ k. same k q) e ∙ same-self q)

        find_other : (o : Option Z) (l : List Z) → IsMadeAt q o l → (p : K) → q ≢ p → find (keyed kz p) (out ++ l) ≡ find (keyed kz p) out
        find_other o l nothing p ne = find_first (keyed kz p) out [] refl
        find_other o l (one {z = z} e g) p ne = find_first (keyed kz p) out (z ∷ []) (ap (λ b. cond b (Some z) None) (unlike (kz z) p (λ d. ne (sym e ∙ d))))

        made_now : (p : K) → R p (find (keyed kx p) (take i' xs)) (find (keyed ky p) (take j' ys)) (find (keyed kz p) (out ++ more))
        made_now p = elim (told (same q p)) [
          | inl e ↦ subst (λ k. R k (find (keyed kx k) (take i' xs)) (find (keyed ky k) (take j' ys)) (find (keyed kz k) (out ++ more))) (same-is q p e) here
          | inr e ↦ there (λ d. let a : same q p ≡ true = ap (same q) (sym d) ∙ same-self q in cc)
        ]
          where
            here : R q (find (keyed kx q) (take i' xs)) (find (keyed ky q) (take j' ys)) (find (keyed kz q) (out ++ more))
            here =
                subst (λ a. R q a (find (keyed ky q) (take j' ys)) (find (keyed kz q) (out ++ more))) (sym (finds_here kx xs rx tx low_x))
                (subst (λ b. R q ox b (find (keyed kz q) (out ++ more))) (sym (finds_here ky ys ry ty low_y))
                (subst (λ c. R q ox oy c) (sym (find_here oz more at)) is))

            there : q ≢ p → R p (find (keyed kx p) (take i' xs)) (find (keyed ky p) (take j' ys)) (find (keyed kz p) (out ++ more))
            there ne =
                subst (λ a. R p a (find (keyed ky p) (take j' ys)) (find (keyed kz p) (out ++ more))) (sym (finds_other kx xs rx tx p ne))
                (subst (λ b. R p (find (keyed kx p) (take i xs)) b (find (keyed kz p) (out ++ more))) (sym (finds_other ky ys ry ty p ne))
                (subst (λ c. R p (find (keyed kx p) (take i xs)) (find (keyed ky p) (take j ys)) c) (sym (find_other oz more at p ne)) (m.made p)))

        at_q : {W : Type 0} (kw : W → K) (w : W) (k : K) → kw w ≡ q → cmp q k ≡ Less → cmp (kw w) k ≡ Less
        at_q kw w k e lt = subst (λ l. cmp l k ≡ Less) (sym e) lt

        pub merged : IsMerged i' j' (out ++ more)
        merged = record {
          rising = rising_more oz more at;
          below_x = λ z x s t. elim (was z s) [
            | inl u ↦ m.below_x z x u (rest_within kx xs rx tx x t)
            | inr u ↦ at_q kz z (kx x) u.0 (rest_above kx xs rx tx x t)
          ];
          below_y = λ z y s t. elim (was z s) [
            | inl u ↦ m.below_y z y u (rest_within ky ys ry ty y t)
            | inr u ↦ at_q kz z (ky y) u.0 (rest_above ky ys ry ty y t)
          ];
          x_below_y = λ x y s t. elim (was_taken kx xs rx tx x s) [
            | inl u ↦ m.x_below_y x y u (rest_within ky ys ry ty y t)
            | inr u ↦ at_q kx x (ky y) u (rest_above ky ys ry ty y t)
          ];
          y_below_x = λ y x s t. elim (was_taken ky ys ry ty y s) [
            | inl u ↦ m.y_below_x y x u (rest_within kx xs rx tx x t)
            | inr u ↦ at_q ky y (kx x) u (rest_above kx xs rx tx x t)
          ];
          made = made_now;
          good = λ z s. elim (was z s) [ inl u ↦ m.good z u | inr u ↦ u.1 ];
        }

      module _ (i j : ℕ) (out : List Z) (m : IsMerged i j out) (q : K) (oz : Option Z) (more : List Z) (at : IsMadeAt q oz more) where
        rest_x : (x : X) → slice_get xs i ≡ Some x → Split (drop i xs) x
        rest_x x e = subst (λ l. Split l x) (sym (drop_at xs i x e)) (head x (drop (suc i) xs))

        rest_y : (y : Y) → slice_get ys j ≡ Some y → Split (drop j ys) y
        rest_y y e = subst (λ l. Split l y) (sym (drop_at ys j y e)) (head y (drop (suc j) ys))

        pub merged_x : (x : X) → slice_get xs i ≡ Some x → kx x ≡ q → ((y : Y) → slice_get ys j ≡ Some y → cmp q (ky y) ≡ Less) → R q (Some x) None oz → IsMerged (suc i) j (out ++ more)
        merged_x x e k below is =
            merged i j out m q (Some x) None oz (suc i) j more (taken e k) (passed below) at is
            (λ z s. subst (λ l. cmp (kx z) l ≡ Less) k (in_two kx xs rx i z x s (rest_x x e)))
            (λ y s. subst (λ l. cmp (ky y) l ≡ Less) k (m.y_below_x y x s (rest_x x e)))
            (λ z s. subst (λ l. cmp (kz z) l ≡ Less) k (m.below_x z x s (rest_x x e)))

        pub merged_y : (y : Y) → slice_get ys j ≡ Some y → ky y ≡ q → ((x : X) → slice_get xs i ≡ Some x → cmp q (kx x) ≡ Less) → R q None (Some y) oz → IsMerged i (suc j) (out ++ more)
        merged_y y e k below is =
            merged i j out m q None (Some y) oz i (suc j) more (passed below) (taken e k) at is
            (λ x s. subst (λ l. cmp (kx x) l ≡ Less) k (m.x_below_y x y s (rest_y y e)))
            (λ z s. subst (λ l. cmp (ky z) l ≡ Less) k (in_two ky ys ry j z y s (rest_y y e)))
            (λ z s. subst (λ l. cmp (kz z) l ≡ Less) k (m.below_y z y s (rest_y y e)))

        pub merged_both : (x : X) (y : Y) → slice_get xs i ≡ Some x → slice_get ys j ≡ Some y → kx x ≡ q → ky y ≡ q → R q (Some x) (Some y) oz → IsMerged (suc i) (suc j) (out ++ more)
        merged_both x y e f k l is =
            merged i j out m q (Some x) (Some y) oz (suc i) (suc j) more (taken e k) (taken f l) at is
            (λ z s. subst (λ l. cmp (kx z) l ≡ Less) k (in_two kx xs rx i z x s (rest_x x e)))
            (λ z s. subst (λ k. cmp (ky z) k ≡ Less) l (in_two ky ys ry j z y s (rest_y y f)))
            (λ z s. subst (λ l. cmp (kz z) l ≡ Less) k (m.below_x z x s (rest_x x e)))
