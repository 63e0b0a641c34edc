-- The first content that resolutions pick and that is not held.
use Rattle.std.specs.Prelude.{slice_get, find, filter_map, is_none, option_and_then, if◌then◌else◌}
use Rattle.std.specs.List.{cons_option}
use Rattle.std.specs.FinMap.{get}
use Rattle.std.proofs.Common.{◌≡◌, ◌<◌, ◌+◌, ℕ, zero, suc, Bool, true, false, cond, List, [], ◌∷◌, ◌++◌, length, take, get_or, Option, Some, None, refl, sym, ap, ◌∙◌, arith}
use Rattle.mtn_base.specs.declared.id.Id.{Id}
use Rattle.mtn_changeset_laws.specs.Changes.{or_else}
use Rattle.mtn_model.specs.Table.{Table}
use Rattle.mtn_resolve.specs.declared.resolution.Resolution.{Resolution}
use Rattle.mtn_resolve.specs.Overriding.{pick_in}
use Rattle.mtn_merge.specs.Given.{first_unknown, unknown_in}

-- the first that passes, in two lists one after the other
find_append : {X : Type 0} (test : X → Bool) (xs ys : List X) → find test (xs ++ ys) ≡ or_else (find test xs) (find test ys)
find_append test [] ys = refl
find_append test (x ∷ xs) ys = elim (test x) as (λ b. cond b (Some x) (find test (xs ++ ys)) ≡ or_else (cond b (Some x) (find test xs)) (find test ys)) [
  | true ↦ refl
  | false ↦ find_append test xs ys
]

find_cons : {X : Type 0} (test : X → Bool) (o : Option X) (xs : List X) → find test (cons_option o xs) ≡ or_else (option_and_then (λ x. if test x then Some x else None) o) (find test xs)
find_cons test None xs = refl
find_cons test (Some x) xs = elim (test x) as (λ b. cond b (Some x) (find test xs) ≡ or_else (cond b (Some x) None) (find test xs)) [
  | true ↦ refl
  | false ↦ refl
]

first_cons : (files : Table) (c : Resolution) (cs : List Resolution) → first_unknown files (c ∷ cs) ≡ or_else (unknown_in files c) (first_unknown files cs)
first_cons files c cs = find_cons (λ (id : Id). is_none (get files id.0)) (pick_in c) (filter_map pick_in cs)

or_assoc : {X : Type 0} (a b c : Option X) → or_else (or_else a b) c ≡ or_else a (or_else b c)
or_assoc None b c = refl
or_assoc (Some x) b c = refl

first_append : (files : Table) (cs ds : List Resolution) → first_unknown files (cs ++ ds) ≡ or_else (first_unknown files cs) (first_unknown files ds)
first_append files [] ds = refl
first_append files (c ∷ cs) ds =
    first_cons files c (cs ++ ds) ∙ ap (or_else (unknown_in files c)) (first_append files cs ds)
    ∙ sym (or_assoc (unknown_in files c) (first_unknown files cs) (first_unknown files ds)) ∙ ap (λ o. or_else o (first_unknown files ds)) (sym (first_cons files c cs))

or_none : {X : Type 0} (a b : Option X) → a ≡ None → or_else a b ≡ b
or_none a b e = ap (λ o. or_else o b) e

-- a list up to a place, that element, and the rest
module _ {X : Type 0} where
  take_suc : (i : ℕ) (xs : List X) → take (suc i + 1) xs ≡ take (suc (i + 1)) xs
  take_suc i xs = let e : suc i + 1 ≡ suc (i + 1) = omega arith in ap (λ n. take n xs) e

  split_at : (xs : List X) (i : ℕ) (x : X) → slice_get xs i ≡ Some x → (rest : List X) × (xs ≡ take i xs ++ x ∷ rest) × (take (i + 1) xs ≡ take i xs ++ x ∷ [])
  split_at [] i x at = absurd cc
  split_at (y ∷ ys) zero x at = let same : y ≡ x = cc in (ys, ap (λ z. z ∷ ys) same, ap (λ z. z ∷ []) same)
  split_at (y ∷ ys) (suc i) x at = let r = split_at ys i x at in (r.0, ap (λ zs. y ∷ zs) r.1, (take_suc i (y ∷ ys) ∙ ap (λ zs. y ∷ zs) r.2))

  pub at_item : (xs : List X) (i : ℕ) (x y : X) → i < length xs → x ≡ get_or xs i y → slice_get xs i ≡ Some x
  at_item [] i x y lt e = absurd (omega (arith, lt))
  at_item (z ∷ xs) zero x y lt e = ap Some (sym e)
  at_item (z ∷ xs) (suc i) x y lt e = at_item xs i x y (omega (arith, lt)) e

-- the resolutions of a text
pub first_here : (files : Table) (cs : List Resolution) (i : ℕ) (c : Resolution) (id : Id) → slice_get cs i ≡ Some c → first_unknown files (take i cs) ≡ None → Some id ≡ unknown_in files c → Some id ≡ first_unknown files cs
first_here files cs i c id at before here =
    let s = split_at cs i c at in
    sym (ap (first_unknown files) s.1 ∙ first_append files (take i cs) (c ∷ s.0) ∙ or_none (first_unknown files (take i cs)) (first_unknown files (c ∷ s.0)) before ∙ first_cons files c s.0
    ∙ ap (λ o. or_else o (first_unknown files s.0)) (sym here))

pub first_past : (files : Table) (cs : List Resolution) (i : ℕ) (c : Resolution) → slice_get cs i ≡ Some c → first_unknown files (take i cs) ≡ None → None ≡ unknown_in files c → first_unknown files (take (i + 1) cs) ≡ None
first_past files cs i c at before here =
    let s = split_at cs i c at in
    ap (first_unknown files) s.2 ∙ first_append files (take i cs) (c ∷ []) ∙ or_none (first_unknown files (take i cs)) (first_unknown files (c ∷ [])) before ∙ first_cons files c []
    ∙ ap (λ o. or_else o None) (sym here)
