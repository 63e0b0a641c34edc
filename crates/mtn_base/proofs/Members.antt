-- Elements of joined and filtered lists.
use Rattle.std.specs.Prelude.{filter_map, slice_get}
use Rattle.std.specs.List.{cons_option}
use Rattle.std.proofs.Common.{ℕ, zero, suc, ◌<◌, length, get_or, arith, ◌≡◌, List, [], ◌∷◌, ◌++◌, Option, Some, None, refl, sym, ◌∙◌, ap, subst, ◌⊎◌, inl, inr, append_assoc}
use Rattle.mtn_base.proofs.Finding.{Split, later}

pub head : {X : Type 0} (x : X) (xs : List X) → Split (x ∷ xs) x
head x xs = record { before = []; rest = xs; is = refl }

module _ {X : Type 0} where
  pub split_cons : (z : X) (zs : List X) (x : X) → Split (z ∷ zs) x → (z ≡ x) ⊎ Split zs x
  split_cons z zs x s = go s.before s.rest s.is
    where
      go : (before rest : List X) → z ∷ zs ≡ before ++ x ∷ rest → (z ≡ x) ⊎ Split zs x
      go [] rest e = inl cc
      go (b ∷ before) rest e = inr (record { before = before; rest = rest; is = cc })

  pub of_append : (xs ys : List X) (x : X) → Split (xs ++ ys) x → Split xs x ⊎ Split ys x
  of_append [] ys x s = inr s
  of_append (z ∷ xs) ys x s = elim (split_cons z (xs ++ ys) x s) [
    | inl e ↦ inl (subst (Split (z ∷ xs)) e (head z xs))
    | inr t ↦ elim (of_append xs ys x t) [ inl a ↦ inl (later z xs x a) | inr b ↦ inr b ]
  ]

  pub in_left : (xs ys : List X) (x : X) → Split xs x → Split (xs ++ ys) x
  in_left xs ys x s = record { before = s.before; rest = s.rest ++ ys; is = ap (λ l. l ++ ys) s.is ∙ append_assoc s.before (x ∷ s.rest) ys }

  pub in_right : (xs ys : List X) (x : X) → Split ys x → Split (xs ++ ys) x
  in_right xs ys x s = record { before = xs ++ s.before; rest = s.rest; is = ap (λ l. xs ++ l) s.is ∙ sym (append_assoc xs s.before (x ∷ s.rest)) }

module _ {X Y : Type 0} (h : X → Option Y) where
  pub of_filter_map : (xs : List X) (y : Y) → Split (filter_map h xs) y → (x : X) × Split xs x × (h x ≡ Some y)
  of_filter_map [] y s = absurd (none s.before s.rest s.is)
    where
      none : (before rest : List Y) → [] ≡ before ++ y ∷ rest → ⊥
      none [] rest e = cc
      none (b ∷ before) rest e = cc
  of_filter_map (x ∷ xs) y s =
      elim (h x) as (λ o. h x ≡ o → Split (cons_option o (filter_map h xs)) y → (z : X) × Split (x ∷ xs) z × (h z ≡ Some y)) [
        | None ↦ λ e t. let r = of_filter_map xs y t in (r.0, later x xs r.0 r.1, r.2)
        | Some w ↦ λ e t. elim (split_cons w (filter_map h xs) y t) [
          | inl g ↦ (x, head x xs, e ∙ ap Some g)
          | inr u ↦ let r = of_filter_map xs y u in (r.0, later x xs r.0 r.1, r.2)
        ]
      ] refl s

  pub in_filter_map : (xs : List X) (x : X) (y : Y) → Split xs x → h x ≡ Some y → Split (filter_map h xs) y
  in_filter_map xs x y s e = subst (λ l. Split (filter_map h l) y) (sym s.is) (go s.before)
    where
      go : (before : List X) → Split (filter_map h (before ++ x ∷ s.rest)) y
      go [] = subst (λ o. Split (cons_option o (filter_map h s.rest)) y) (sym e) (head y (filter_map h s.rest))
      go (b ∷ before) = elim (h b) as (λ o. Split (cons_option o (filter_map h (before ++ x ∷ s.rest))) y) [ None ↦ go before | Some w ↦ later w (filter_map h (before ++ x ∷ s.rest)) y (go before) ]

-- the element at a place
module _ {X : Type 0} where
  pub taken : (xs : List X) (i : ℕ) → i < length xs → (x : X) × (slice_get xs i ≡ Some x) × Split xs x × ((d : X) → get_or xs i d ≡ x)
  taken [] i h = absurd (omega (arith, h))
  taken (x ∷ xs) zero h = (x, refl, record { before = []; rest = xs; is = refl }, λ d. refl)
  taken (x ∷ xs) (suc i) h = let r = taken xs i (omega (arith, h)) in (r.0, r.1, later x xs r.0 r.2, r.3)

  pub placed_at : (before rest : List X) (x : X) → (length before < length (before ++ x ∷ rest)) × ((d : X) → get_or (before ++ x ∷ rest) (length before) d ≡ x)
  placed_at [] rest x = (omega arith, λ d. refl)
  placed_at (b ∷ before) rest x = let r = placed_at before rest x in (omega (arith, r.0), λ d. r.1 d)

  pub place_of : (xs : List X) (x : X) → Split xs x → (i : ℕ) × (i < length xs) × ((d : X) → get_or xs i d ≡ x)
  place_of xs x s = let r = placed_at s.before s.rest x in (length s.before, subst (λ l. length s.before < length l) (sym s.is) r.0, λ d. ap (λ l. get_or l (length s.before) d) s.is ∙ r.1 d)

pub any_default : {X : Type 0} (xs : List X) (i : ℕ) (d e : X) → i < length xs → get_or xs i d ≡ get_or xs i e
any_default [] i d e h = absurd (omega (arith, h))
any_default (x ∷ xs) zero d e h = refl
any_default (x ∷ xs) (suc i) d e h = any_default xs i d e (omega (arith, h))
