-- Lists in the order of a key, seen through a map, and entries in the order of their nodes.
use Rattle.std.specs.Prelude.{◌↔◌, IsTrue, map}
use Rattle.std.specs.List.{list_all, AllByRecursion, IsDistinct, IsAllAdjacentAnswer}
use Rattle.std.specs.List.Sorted.{IsPermutation, IsSortedBy}
use Rattle.std.specs.FinMap.Entries.{by_order}
use Rattle.std.specs.declared.cmp.Ordering.{Ordering}
use Rattle.std.specs.declared.cmp.Ordering.TheVariants.{Less, Equal, Greater}
use Rattle.std.specs.Ordering.{is_lt}
use Rattle.std.specs.Cmp.{first_so, second_so}
use Rattle.std.proofs.Common.{◌≡◌, Bool, true, false, Bor, List, [], ◌∷◌, refl, sym, ◌∙◌, ap, subst}
use Rattle.mtn_base.specs.Names.{name_cmp, same_name}
use Rattle.mtn_base.specs.declared.name.NodeName.{NodeName}
use Rattle.mtn_records.specs.declared.entry.NumberedEntry.{NumberedEntry}
use Rattle.mtn_base.specs.Lists.{rises, placed, ordered}
use Rattle.mtn_base.proofs.Orders.{names_total, exact_names}
use Rattle.mtn_base.proofs.Sorting.{lt_was, Sorts, sorts, ordered-rises}
use Rattle.mtn_base.proofs.Tests.{same_name-is, same_name-self}
use Rattle.mtn_roster_deltas.specs.Chain.{Entries}
use Rattle.mtn_roster_deltas.specs.Spelled.{by_node, node_of}

module _ {X Y K : Type 0} (cmp : K → K → Ordering) (key : Y → K) (f : X → Y) where
  map_placed : (x : X) (xs : List X) → map f (placed cmp (λ z. key (f z)) x xs) ≡ placed cmp key (f x) (map f xs)
  map_placed x [] = refl
  map_placed x (y ∷ xs) =
      elim (cmp (key (f x)) (key (f y))) as (λ r. map f (by_order r (x ∷ y ∷ xs) (x ∷ xs) (y ∷ placed cmp (λ z. key (f z)) x xs)) ≡ by_order r (f x ∷ f y ∷ map f xs) (f x ∷ map f xs) (f y ∷ placed cmp key (f x) (map f xs))) [
        | Less ↦ refl
        | Equal ↦ refl
        | Greater ↦ ap (λ l. f y ∷ l) (map_placed x xs)
      ]

  pub map_ordered : (xs : List X) → map f (ordered cmp (λ z. key (f z)) xs) ≡ ordered cmp key (map f xs)
  map_ordered [] = refl
  map_ordered (x ∷ xs) = map_placed x (ordered cmp (λ z. key (f z)) xs) ∙ ap (placed cmp key (f x)) (map_ordered xs)

-- what rises is in order
pub ordered_rising : {X K : Type 0} (cmp : K → K → Ordering) (key : X → K) (xs : List X) → rises cmp (map key xs) ≡ true → ordered cmp key xs ≡ xs
ordered_rising cmp key [] h = refl
ordered_rising cmp key (x ∷ xs) h =
    ap (placed cmp key x) (ordered_rising cmp key xs (second_so (list_all (λ l. is_lt (cmp (key x) l)) (map key xs)) _ h)) ∙ first xs (first_so _ _ h)
  where
    first : (ys : List _) → list_all (λ l. is_lt (cmp (key x) l)) (map key ys) ≡ true → placed cmp key x ys ≡ x ∷ ys
    first [] g = refl
    first (y ∷ ys) g = ap (λ r. by_order r (x ∷ y ∷ ys) (x ∷ ys) (y ∷ placed cmp key x ys)) (lt_was _ (first_so _ _ g))

-- elements that differ, seen through a map
module _ {X Y : Type 0} (same : Y → Y → Bool) (f : X → Y) where
  all_seen : (x : X) (xs : List X) → AllByRecursion (λ y. same (f x) (f y) ≡ false) xs → AllByRecursion (λ y. same (f x) y ≡ false) (map f xs)
  all_seen x [] h = tt
  all_seen x (y ∷ xs) h = (h.0, all_seen x xs h.1)

  all_were : (x : X) (xs : List X) → AllByRecursion (λ y. same (f x) y ≡ false) (map f xs) → AllByRecursion (λ y. same (f x) (f y) ≡ false) xs
  all_were x [] h = tt
  all_were x (y ∷ xs) h = (h.0, all_were x xs h.1)

  pub differ_seen : (xs : List X) → IsDistinct (λ x y. same (f x) (f y)) xs → IsDistinct same (map f xs)
  unfolding IsDistinct
  differ_seen [] h = tt
  differ_seen (x ∷ xs) h = (all_seen x xs h.0, differ_seen xs h.1)

  pub differ_were : (xs : List X) → IsDistinct same (map f xs) → IsDistinct (λ x y. same (f x) (f y)) xs
  unfolding IsDistinct
  differ_were [] h = tt
  differ_were (x ∷ xs) h = (all_were x xs h.0, differ_were xs h.1)

abbrev pub seen : Bor NumberedEntry → NumberedEntry
seen b = b.now

abbrev ref_node : Bor NumberedEntry → NodeName
ref_node b = b.now.node

abbrev pub one_node : NumberedEntry → NumberedEntry → Bool
one_node e f = same_name e.node f.node

-- sorted references, and whether neighbours are of one node
pub record SortsNodes (es : Entries) (sorted : List (Bor NumberedEntry)) (r : Bool) : Type 0 where
  pub apart : IsTrue r ↔ IsDistinct one_node es
  pub order : IsTrue r → map seen sorted ≡ by_node es

pub sorts_nodes : (es : Entries) (refs sorted : List (Bor NumberedEntry)) (r : Bool) → map seen refs ≡ es → IsPermutation refs sorted →
    IsSortedBy (λ x y. is_lt (name_cmp x.now.node y.now.node)) sorted → IsAllAdjacentAnswer (λ x y b. b ≡ is_lt (name_cmp x.now.node y.now.node)) sorted r → SortsNodes es sorted r
sorts_nodes es refs sorted r is moved up told =
    let s : Sorts name_cmp ref_node names_total same_name same_name-is same_name-self exact_names refs sorted r = sorts name_cmp ref_node names_total same_name same_name-is same_name-self exact_names refs sorted r moved up told in
    record {
      apart = (
        λ t. subst (IsDistinct one_node) is (differ_seen one_node seen refs (s.apart.0 t)),
        λ d. s.apart.1 (differ_were one_node seen refs (subst (IsDistinct one_node) (sym is) d)),
      );
      order = λ t. ap (map seen) (s.order t) ∙ map_ordered name_cmp node_of seen refs ∙ ap (ordered name_cmp node_of) is;
    }

pub by_node_rises : (es : Entries) → rises name_cmp (map node_of (by_node es)) ≡ true
by_node_rises es = ordered-rises name_cmp node_of names_total es
