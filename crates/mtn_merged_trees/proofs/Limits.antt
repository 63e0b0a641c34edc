-- Trees that show the same are within the same limits.
use Rattle.std.specs.Prelude.{map, find, nat_lt, option_map, if◌then◌else◌}
use Rattle.std.specs.Cmp.{IsTotalOrder, first_so, tied_itself}
use Rattle.std.specs.List.{IsDistinct}
use Rattle.std.specs.declared.cmp.Ordering.{Ordering}
use Rattle.std.specs.declared.cmp.Ordering.TheVariants.{Less, Equal, Greater}
use Rattle.std.proofs.Common.{◌≡◌, ◌<◌, ℕ, suc, Bool, true, false, List, [], ◌∷◌, length, get_or, Some, None, refl, sym, ◌∙◌, ap, subst, arith}
use Rattle.std.proofs.lemmas.Map.Keys.{IsDistinct-from_apart, IsDistinct-head, IsDistinct-tail}
use Rattle.std.specs.FinMap.Entries.{by_order}
use Rattle.mtn_base.specs.Lists.{ordered, placed}
use Rattle.mtn_base.specs.Names.{name_cmp, path_cmp, same_path}
use Rattle.mtn_base.specs.declared.limits.TheConstants.{MAX_NODES}
use Rattle.mtn_base.specs.declared.refusal.Cause.TheVariants.{PathTooLong, TooManyNodes}
use Rattle.mtn_base.proofs.Finding.{Split, later}
use Rattle.mtn_base.proofs.Members.{head, taken}
use Rattle.mtn_base.proofs.Sorting.{less_at, long_map, of_ordered, rec_at}
use Rattle.mtn_base.proofs.Orders.{names_total, paths_total}
use Rattle.mtn_base.proofs.Tests.{same_path-is, same_path-self}
use Rattle.mtn_replay.specs.Making.{is_long, too_long, too_many}
use Rattle.mtn_roster.specs.declared.entry.Attr.{Attr}
use Rattle.mtn_roster.specs.declared.entry.Body.{Body}
use Rattle.mtn_roster.specs.declared.entry.Entry.{Entry}
use Rattle.mtn_roster.specs.Tree.{Tree, IsSane, node_at, path_of}
use Rattle.mtn_roster.proofs.Ordered.{forest_of}
use Rattle.mtn_roster.proofs.Paths.{exact_paths}
use Rattle.mtn_roster.proofs.Pathing.{path_leads}
use Rattle.mtn_roster.specs.Walk.{by_path}
use Rattle.mtn_between.specs.Twins.{shown}

abbrev Shown : Type 0
Shown = List (List ℕ) × Body × List Attr

map_twice : {X Y Z : Type 0} (f : X → Y) (g : Y → Z) (xs : List X) → map g (map f xs) ≡ map (λ x. g (f x)) xs
map_twice f g [] = refl
map_twice f g (x ∷ xs) = ap (λ l. g (f x) ∷ l) (map_twice f g xs)

-- no key ties with another, so none is dropped
module _ {X K : Type 0} (cmp : K → K → Ordering) (key : X → K) (total : IsTotalOrder cmp) (same : K → K → Bool) (same-self : (a : K) → same a a ≡ true) (exact : (a b : K) → cmp a b ≡ Equal → a ≡ b) where
  placed_adds : (a : X) (xs : List X) → ((x : X) → Split xs x → cmp (key a) (key x) ≡ Equal → ⊥) → length (placed cmp key a xs) ≡ suc (length xs)
  placed_adds a [] apart = refl
  placed_adds a (b ∷ xs) apart =
      elim (cmp (key a) (key b)) as (λ r. cmp (key a) (key b) ≡ r → length (by_order r (a ∷ b ∷ xs) (a ∷ xs) (b ∷ placed cmp key a xs)) ≡ suc (length (b ∷ xs))) [
        | Less ↦ λ e. refl
        | Equal ↦ λ e. absurd (apart b (head b xs) e)
        | Greater ↦ λ e. ap suc (placed_adds a xs (λ x s. apart x (later b xs x s)))
      ] refl

  ordered_keeps : (xs : List X) → IsDistinct (λ (x : X) (y : X). same (key x) (key y)) xs → length (ordered cmp key xs) ≡ length xs
  ordered_keeps [] d = refl
  ordered_keeps (x ∷ xs) d =
      placed_adds x (ordered cmp key xs) (λ y s e.
      let differ = rec_at (λ z. same (key x) (key z) ≡ false) xs y (IsDistinct-head (λ (x : X) (y : X). same (key x) (key y)) x xs d) (of_ordered cmp key total xs y s) in
      let alike : same (key x) (key y) ≡ true = ap (same (key x)) (sym (exact (key x) (key y) e)) ∙ same-self (key x) in
      cc)
      ∙ ap suc (ordered_keeps xs (IsDistinct-tail (λ (x : X) (y : X). same (key x) (key y)) x xs d))

-- a sane tree has no two nodes at one path
module _ (t : Tree) (sane : IsSane t) where
  apart : IsDistinct (λ (e : Entry) (f : Entry). same_path (path_of t e) (path_of t f)) t
  apart = IsDistinct-from_apart (λ (e : Entry) (f : Entry). same_path (path_of t e) (path_of t f)) t (λ i j d lt low.
      let li : i < length t = omega arith in
      let a = taken t i li in
      let b = taken t j low in
      let e = get_or t i d in
      let f = get_or t j d in
      elim (same_path (path_of t e) (path_of t f)) as (λ b. same_path (path_of t e) (path_of t f) ≡ b → b ≡ false) [
        | false ↦ λ q. refl
        | true ↦ λ q. absurd (
            let forest = forest_of t sane in
            let he = forest.distinct e (subst (Split t) (sym (a.3 d)) a.2) in
            let hf = forest.distinct f (subst (Split t) (sym (b.3 d)) b.2) in
            let left = path_leads t forest e.name e he in
            let right = ap (node_at t) (same_path-is (path_of t e) (path_of t f) q) ∙ path_leads t forest f.name f hf in
            let one : e ≡ f = cc in
            let less = less_at name_cmp (λ (e : Entry). e.name) names_total t i j d (first_so _ _ sane.ordered) lt low in
            let equal : name_cmp e.name f.name ≡ Equal = ap (λ (x : Entry). name_cmp e.name x.name) (sym one) ∙ tied_itself names_total e.name in
            cc)
      ] refl)

  walk_whole : length (by_path t) ≡ length t
  walk_whole = ordered_keeps path_cmp (path_of t) paths_total same_path same_path-self exact_paths t apart

module _ (t u : Tree) (same : shown t ≡ shown u) where
  paths_of : (v : Tree) → map (λ (s : Shown). s.0) (shown v) ≡ map (path_of v) (by_path v)
  paths_of v = map_twice (λ (e : Entry). (path_of v e, e.body, e.attrs)) (λ (s : Shown). s.0) (by_path v)

  pub long_same : too_long t ≡ too_long u
  long_same = ap (λ ps. option_map PathTooLong (find is_long ps)) (sym (paths_of t) ∙ ap (map (λ (s : Shown). s.0)) same ∙ paths_of u)

  pub many_same : IsSane t → IsSane u → too_many t ≡ too_many u
  many_same st su =
      let count : (v : Tree) → IsSane v → length v ≡ length (shown v) = λ v sv. sym (walk_whole v sv) ∙ sym (long_map (λ (e : Entry). (path_of v e, e.body, e.attrs)) (by_path v)) in
      ap (λ n. if nat_lt MAX_NODES n then Some (TooManyNodes n) else None) (count t st ∙ ap length same ∙ sym (count u su))
