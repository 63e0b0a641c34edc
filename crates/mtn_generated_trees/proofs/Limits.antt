-- A tree of the form has few nodes and short paths.
use Rattle.std.specs.Prelude.{codes, decimal, find, map, nat_lt, option_map, slice_get, ◌-◌}
use Rattle.std.specs.Option.{option_map_or}
use Rattle.std.specs.Cmp.{first_so, tied_itself}
use Rattle.std.specs.declared.cmp.Ordering.TheVariants.{Equal, Less}
use Rattle.std.proofs.lemmas.Bool.{cases_lt}
use Rattle.std.proofs.lemmas.Bool.Decides.{nat_tests}
use Rattle.std.proofs.lemmas.Fmt.{decimal_digit, length-decimal-le}
use Rattle.std.proofs.Common.{◌≡◌, ◌<◌, ◌≤◌, ◌+◌, ◌*◌, ◌/◌, ◌^◌, ℕ, zero, suc, true, false, cond, if◌then◌else◌, List, [], ◌∷◌, ◌++◌, length, length-append, Some, None, refl, sym, ◌∙◌, ap, subst, inl, inr, arith}
use Rattle.mtn_base.specs.Lists.{rises}
use Rattle.mtn_base.specs.Names.{name_cmp, path_cmp}
use Rattle.mtn_base.specs.Paths.{path_text}
use Rattle.mtn_base.specs.declared.refusal.Cause.TheVariants.{PathTooLong, TooManyNodes}
use Rattle.mtn_base.proofs.Finding.{Split, later}
use Rattle.mtn_base.proofs.Members.{head, taken}
use Rattle.mtn_base.proofs.Orders.{names_total, paths_total}
use Rattle.mtn_base.proofs.Sorting.{less_at, of_ordered}
use Rattle.mtn_conflicts.proofs.Looping.{repeats}
use Rattle.mtn_generated.specs.Numbered.{directory_at, path_at}
use Rattle.mtn_generated.proofs.Counted.{split}
use Rattle.mtn_replay.specs.Making.{is_long, too_long, too_many}
use Rattle.mtn_roster.specs.Tree.{IsSane, Tree, node_at, path_of}
use Rattle.mtn_roster.specs.Walk.{by_path}
use Rattle.mtn_roster.specs.declared.entry.Entry.{Entry}
use Rattle.mtn_roster.proofs.Forest.{IsForest, same_some}
use Rattle.mtn_roster.proofs.Ordered.{forest_of}
use Rattle.mtn_roster.proofs.Pathing.{path_leads}
use Rattle.mtn_generated_trees.specs.Formed.{IsFormed, IsPathAt}

-- ---- the paths by numbers

-- the number of a path: ten for the root, eleven for a directory, and that of its digit for a file
code : List (List ℕ) → ℕ
code [] = 10
code (d ∷ []) = 11
code (d ∷ [] ∷ more) = 0
code (d ∷ (c ∷ []) ∷ more) = 0
code (d ∷ (c ∷ digit ∷ rest) ∷ more) = digit - 48

code_file : (i j : ℕ) → j < 10 → code (path_at i j) ≡ j
unfolding code
code_file i j few = ap (λ ds. code (directory_at i ∷ (102 ∷ ds) ∷ [])) (decimal_digit j few) ∙ (let e : 48 + j - 48 ≡ j = omega arith in e)

code_small : (i : ℕ) (p : List (List ℕ)) → IsPathAt i p → code p < 12
unfolding code
code_small i p (inl e) = subst (λ q. code q < 12) (sym e) (omega arith)
code_small i p (inr (inl e)) = subst (λ q. code q < 12) (sym e) (omega arith)
code_small i p (inr (inr z)) = subst (λ q. code q < 12) (sym z.2) (let few = z.1 in let is = code_file i z.0 z.1 in omega (arith, few, is))

-- paths of one number are the same
one_path : (i : ℕ) (p q : List (List ℕ)) → IsPathAt i p → IsPathAt i q → code p ≡ code q → p ≡ q
unfolding code
one_path i p q (inl e) (inl g) same = e ∙ sym g
one_path i p q (inl e) (inr (inl g)) same = let z : 10 ≡ 11 = sym (ap code e) ∙ same ∙ ap code g in absurd (omega (arith, z))
one_path i p q (inl e) (inr (inr g)) same = let z : 10 ≡ g.0 = sym (ap code e) ∙ same ∙ ap code g.2 ∙ code_file i g.0 g.1 in let few = g.1 in absurd (omega (arith, z, few))
one_path i p q (inr (inl e)) (inl g) same = let z : 11 ≡ 10 = sym (ap code e) ∙ same ∙ ap code g in absurd (omega (arith, z))
one_path i p q (inr (inl e)) (inr (inl g)) same = e ∙ sym g
one_path i p q (inr (inl e)) (inr (inr g)) same = let z : 11 ≡ g.0 = sym (ap code e) ∙ same ∙ ap code g.2 ∙ code_file i g.0 g.1 in let few = g.1 in absurd (omega (arith, z, few))
one_path i p q (inr (inr e)) (inl g) same = let z : e.0 ≡ 10 = sym (code_file i e.0 e.1) ∙ sym (ap code e.2) ∙ same ∙ ap code g in let few = e.1 in absurd (omega (arith, z, few))
one_path i p q (inr (inr e)) (inr (inl g)) same = let z : e.0 ≡ 11 = sym (code_file i e.0 e.1) ∙ sym (ap code e.2) ∙ same ∙ ap code g in let few = e.1 in absurd (omega (arith, z, few))
one_path i p q (inr (inr e)) (inr (inr g)) same =
    let z : e.0 ≡ g.0 = sym (code_file i e.0 e.1) ∙ sym (ap code e.2) ∙ same ∙ ap code g.2 ∙ code_file i g.0 g.1 in
    e.2 ∙ ap (path_at i) z ∙ sym g.2

-- the numbers below a bound, as a list
below : ℕ → List ℕ
below zero = []
below (suc n) = n ∷ below n

below_long : (n : ℕ) → length (below n) ≡ n
unfolding below
below_long zero = refl
below_long (suc n) = ap suc (below_long n)

below_has : (n k : ℕ) → k < n → Split (below n) k
unfolding below
below_has zero k lt = absurd (omega (arith, lt))
below_has (suc n) k lt = elim (cases_lt k n) [
  | inl low ↦ later n (below n) k (below_has n k low)
  | inr high ↦ subst (λ z. Split (n ∷ below n) z) (let e : n ≡ k = omega (arith, lt, high) in e) (head n (below n))
]

-- ---- paths

short_directory : (i : ℕ) → i < 2 ^ 64 → length (directory_at i) ≤ 21
short_directory i small =
    let a = split (i - 1) in
    let n : ℕ = 4 * ((i - 1) / 4) + 1 in
    let low : 4 * ((i - 1) / 4) + 1 < 2 ^ 64 = omega (arith, a.whole, small) in
    let digits = length-decimal-le 20 (4 * ((i - 1) / 4) + 1) (omega arith) (omega (arith, low)) low in
    omega (arith, digits)

short_name : (j : ℕ) → j < 10 → length (codes "f" ++ decimal j) ≤ 2
short_name j few = let e = ap length (decimal_digit j few) in omega (arith, e)

pub short_text : (i : ℕ) → i < 2 ^ 64 → (p : List (List ℕ)) → IsPathAt i p → length (path_text p) ≤ 30
short_text i small p (inl e) = subst (λ q. length (path_text q) ≤ 30) (sym e) (omega arith)
short_text i small p (inr (inl e)) = subst (λ q. length (path_text q) ≤ 30) (sym e) (let d = short_directory i small in omega (arith, d))
short_text i small p (inr (inr z)) =
    subst (λ q. length (path_text q) ≤ 30) (sym z.2)
    (let d = short_directory i small in let n = short_name z.0 z.1 in let whole = length-append (directory_at i) (47 ∷ (codes "f" ++ decimal z.0)) in omega (arith, d, n, whole))

-- ---- the tree

module _ (f : List ℕ → List ℕ) (i m : ℕ) (small : i < 2 ^ 64) (t : Tree) (sane : IsSane t) (form : IsFormed f i m t) where
  forest : IsForest t
  forest = forest_of t sane

  pub leads : (e : Entry) → Split t e → node_at t (path_of t e) ≡ Some e
  leads e s = path_leads t forest e.name e (forest.distinct e s)

  pub path_here : (e : Entry) → Split t e → IsPathAt i (path_of t e)
  path_here e s = form.no_more (path_of t e) e (leads e s)

  pub short_path : (e : Entry) → Split t e → length (path_text (path_of t e)) ≤ 30
  short_path e s = short_text i small (path_of t e) (path_here e s)

  -- the number of the path of the entry at a place
  number : ℕ → ℕ
  number k = option_map_or (λ (e : Entry). code (path_of t e)) (slice_get t k) 0

  names_rise : rises name_cmp (map (λ (e : Entry). e.name) t) ≡ true
  names_rise = first_so (rises name_cmp (map (λ (e : Entry). e.name) t)) _ sane.ordered

  -- entries at two places have two numbers
  apart : (a b : ℕ) → a < b → b < length t → number a ≡ number b → ⊥
  unfolding number
  apart a b lt low same =
      let x = taken t a (omega (arith, lt, low)) in
      let y = taken t b low in
      let numbers : code (path_of t x.0) ≡ code (path_of t y.0) =
      ap (λ o. option_map_or (λ (e : Entry). code (path_of t e)) o 0) (sym x.1) ∙ same ∙ ap (λ o. option_map_or (λ (e : Entry). code (path_of t e)) o 0) y.1 in
      let paths = one_path i (path_of t x.0) (path_of t y.0) (path_here x.0 x.2) (path_here y.0 y.2) numbers in
      let one : x.0 ≡ y.0 = same_some (leads x.0 x.2) (ap (node_at t) paths ∙ leads y.0 y.2) in
      let less : name_cmp x.0.name y.0.name ≡ Less =
      sym (λ z. name_cmp (x.3 x.0 z).name (y.3 x.0 z).name) ∙ less_at name_cmp (λ (e : Entry). e.name) names_total t a b x.0 names_rise lt low in
      let equal : name_cmp x.0.name y.0.name ≡ Equal = ap (λ (e : Entry). name_cmp x.0.name e.name) (sym one) ∙ tied_itself names_total x.0.name in
      let z : Less ≡ Equal = sym less ∙ equal in
      cc

  numbered : 12 < length t → (k : ℕ) → k ≤ 12 → Split (below 12) (number k)
  unfolding number
  numbered many k le =
      let x = taken t k (omega (arith, many, le)) in
      subst (Split (below 12)) (ap (λ o. option_map_or (λ (e : Entry). code (path_of t e)) o 0) (sym x.1))
      (below_has 12 (code (path_of t x.0)) (code_small i (path_of t x.0) (path_here x.0 x.2)))

  pub few : length t ≤ 12
  few = elim (cases_lt 12 (length t)) [
    | inl many ↦
        let long = below_long 12 in
        let r = repeats number 12 (below 12) (omega (arith, long)) (numbered many) in
        let last = r.3 in
        absurd (apart r.0 r.1 r.2 (omega (arith, many, last)) r.4)
    | inr le ↦ le
  ]

  pub not_too_many : too_many t ≡ None
  not_too_many =
      let le = few in
      let test : nat_lt 100000 (length t) ≡ false = grind (arith, nat_tests) in
      ap (λ b. if b then Some (TooManyNodes (length t)) else None) test

  none_long : (es : List Entry) → ((e : Entry) → Split es e → is_long (path_of t e) ≡ false) → find is_long (map (path_of t) es) ≡ None
  none_long [] each = refl
  none_long (e ∷ es) each =
      ap (λ b. cond b (Some (path_of t e)) (find is_long (map (path_of t) es))) (each e (head e es)) ∙ none_long es (λ x s. each x (later e es x s))

  not_long : (e : Entry) → Split t e → is_long (path_of t e) ≡ false
  not_long e s = let le = short_path e s in grind (arith, nat_tests)

  pub not_too_long : too_long t ≡ None
  not_too_long = ap (option_map PathTooLong) (none_long (by_path t) (λ e s. not_long e (of_ordered path_cmp (path_of t) paths_total t e s)))
