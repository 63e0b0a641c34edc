-- What a search of a list finds.
use Rattle.std.specs.Prelude.{◌||◌, find}
use Rattle.std.specs.List.{list_any}
use Rattle.mtn_base.specs.Lists.{is_some_with}
use Rattle.std.proofs.Common.{◌≡◌, Bool, true, false, cond, List, [], ◌∷◌, ◌++◌, Option, Some, None, refl, ◌∙◌, ap, subst}

pub either_false : (a b : Bool) → (a || b) ≡ false → (a ≡ false) × (b ≡ false)
either_false true b h = absurd cc
either_false false b h = (refl, h)

-- the list as what is before x, x and what comes after it
pub record Split {X : Type 0} (xs : List X) (x : X) : Type 0 where
  pub before : List X
  pub rest : List X
  pub is : xs ≡ before ++ x ∷ rest

abbrev pub later : {X : Type 0} (y : X) (xs : List X) (x : X) → Split xs x → Split (y ∷ xs) x
later y xs x s = record { before = y ∷ s.before; rest = s.rest; is = ap (λ l. y ∷ l) s.is }

-- what is found stands in the list, passes, and nothing before it does
pub record Found {X : Type 0} (f : X → Bool) (xs : List X) (x : X) : Type 0 where
  pub at : Split xs x
  pub passes : f x ≡ true
  pub first : list_any f at.before ≡ false

module _ {X : Type 0} (f : X → Bool) where
  pub found : (xs : List X) (x : X) → find f xs ≡ Some x → Found f xs x
  found [] x h = absurd cc
  found (y ∷ xs) x h =
      elim (f y) as (λ b. f y ≡ b → cond b (Some y) (find f xs) ≡ Some x → Found f (y ∷ xs) x) [
        | true ↦ λ e g. let d : y ≡ x = cc in record { at = record { before = []; rest = xs; is = ap (λ z. z ∷ xs) d }; passes = subst (λ z. f z ≡ true) d e; first = refl }
        | false ↦ λ e g. let r = found xs x g in record { at = later y xs x r.at; passes = r.passes; first = ap (λ b. b || list_any f r.at.before) e ∙ r.first }
      ] refl h

  pub not_found : (xs : List X) → find f xs ≡ None → list_any f xs ≡ false
  not_found [] h = refl
  not_found (y ∷ xs) h =
      elim (f y) as (λ b. f y ≡ b → cond b (Some y) (find f xs) ≡ None → (f y || list_any f xs) ≡ false) [
        | true ↦ λ e g. absurd cc
        | false ↦ λ e g. ap (λ b. b || list_any f xs) e ∙ not_found xs g
      ] refl h

  pub find-first : (before rest : List X) (x : X) → list_any f before ≡ false → f x ≡ true → find f (before ++ x ∷ rest) ≡ Some x
  find-first [] rest x none h = ap (λ b. cond b (Some x) (find f rest)) h
  find-first (y ∷ before) rest x none h =
      let t = either_false (f y) (list_any f before) none in
      ap (λ b. cond b (Some y) (find f (before ++ x ∷ rest))) t.0 ∙ find-first before rest x t.1 h

  pub list_any-here : (before rest : List X) (x : X) → f x ≡ true → list_any f (before ++ x ∷ rest) ≡ true
  list_any-here [] rest x h = ap (λ b. b || list_any f rest) h
  list_any-here (y ∷ before) rest x h = elim (f y) as (λ b. (b || list_any f (before ++ x ∷ rest)) ≡ true) [ true ↦ refl | false ↦ list_any-here before rest x h ]

  -- where no element passes, this one does not
  pub none_passes : (xs : List X) (x : X) → list_any f xs ≡ false → Split xs x → f x ≡ false
  none_passes xs x h s =
      elim (f x) as (λ b. f x ≡ b → b ≡ false) [
        | true ↦ λ e. absurd (let a = list_any-here s.before s.rest x e in let g = ap (list_any f) s.is in cc)
        | false ↦ λ e. refl
      ] refl

  -- one that passes
  pub some_passes : (xs : List X) → list_any f xs ≡ true → (x : X) × Found f xs x
  some_passes [] h = absurd cc
  some_passes (y ∷ xs) h =
      elim (f y) as (λ b. f y ≡ b → (b || list_any f xs) ≡ true → (x : X) × Found f (y ∷ xs) x) [
        | true ↦ λ e g. (y, record { at = record { before = []; rest = xs; is = refl }; passes = e; first = refl })
        | false ↦ λ e g. let r = some_passes xs g in (r.0, record { at = later y xs r.0 r.1.at; passes = r.1.passes; first = ap (λ b. b || list_any f r.1.at.before) e ∙ r.1.first })
      ] refl h

  -- an element that passes is found, or one before it
  pub finds_some : (xs : List X) (x : X) → Split xs x → f x ≡ true → (y : X) × (find f xs ≡ Some y)
  finds_some xs x s h =
      elim (find f xs) as (λ o. find f xs ≡ o → (y : X) × (o ≡ Some y)) [
        | None ↦ λ e. absurd (let a = none_passes xs x (not_found xs e) s in cc)
        | Some y ↦ λ e. (y, refl)
      ] refl

  pub find-none : (xs : List X) → list_any f xs ≡ false → find f xs ≡ None
  find-none [] h = refl
  find-none (y ∷ xs) h =
      let t = either_false (f y) (list_any f xs) h in
      ap (λ b. cond b (Some y) (find f xs)) t.0 ∙ find-none xs t.1

-- a value that passes
pub passing_some : {A : Type 0} (f : A → Bool) (o : Option A) → is_some_with f o ≡ true → (x : A) × (o ≡ Some x) × (f x ≡ true)
passing_some f None h = absurd cc
passing_some f (Some x) h = (x, refl, h)
