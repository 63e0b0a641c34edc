-- What is made of the live nodes can be built: names and keys differ, and the tree is sane.
use Rattle.std.specs.Prelude.{map}
use Rattle.std.specs.List.{list_all, list_any, AllByRecursion, IsDistinct}
use Rattle.std.specs.declared.cmp.Ordering.{Ordering}
use Rattle.std.specs.declared.cmp.Ordering.TheVariants.{Less, Equal}
use Rattle.std.specs.Ordering.{is_lt}
use Rattle.std.specs.FinMap.Entries.{by_order}
use Rattle.std.specs.Cmp.{IsTotalOrder, first_so, second_so, tied_itself}
use Rattle.std.proofs.Common.{◌≡◌, ℕ, Bool, true, false, List, [], ◌∷◌, refl, sym, ◌∙◌, ap, subst, inl, inr}
use Rattle.mtn_base.specs.Names.{bytes_cmp, name_cmp, same_bytes, same_name}
use Rattle.mtn_base.specs.declared.id.Id.{Id}
use Rattle.mtn_roster.specs.Building.{NamesDiffer, KeysDiffer, with_keys_in_order, tree_of, IsBuildable}
use Rattle.mtn_roster.specs.Tree.{Tree, in_order, entry_of, IsSane, IsSaneMap}
use Rattle.mtn_base.specs.Lists.{ordered, rises, placed}
use Rattle.mtn_roster.specs.declared.entry.Attr.{Attr}
use Rattle.mtn_roster.specs.declared.entry.Entry.{Entry}
use Rattle.mtn_base.proofs.Finding.{Split, later}
use Rattle.mtn_base.proofs.Members.{head}
use Rattle.mtn_base.proofs.Sorting.{lt_was}
use Rattle.mtn_base.proofs.Orders.{names_total, bytes_total}
use Rattle.mtn_base.proofs.Tests.{told, same_bytes-is, same_name-is}
use Rattle.mtn_decide.specs.declared.decision.Decision.{Decision}
use Rattle.mtn_decide.specs.Decisions.{Merge, IsInOrder}
use Rattle.mtn_conflicts.specs.Lists.{AreClear}
use Rattle.mtn_conflicts.specs.Result.{tree_before, new_name, new_entry, result_of, ParentsAreDirs, NoneBornIn}
use Rattle.mtn_conflicts.proofs.Nodes.{name_of, distinct}
use Rattle.mtn_conflicts.proofs.Clear.{IsTidy, tidy}
use Rattle.mtn_conflicts.proofs.Before.{has_rising_keys, before_is_sane}
use Rattle.mtn_conflicts.proofs.Unborn.{as_before}
use Rattle.mtn_conflicts.proofs.Renamed.{of_map, one_of, one_name, keyed, merged_is_sane}

module _ {X K : Type 0} (cmp : K → K → Ordering) (key : X → K) where
  -- what stands in order stays
  pub ordered_stays : (xs : List X) → rises cmp (map key xs) ≡ true → ordered cmp key xs ≡ xs
  ordered_stays [] h = refl
  ordered_stays (x ∷ xs) h =
      ap (placed cmp key x) (ordered_stays xs (second_so (list_all (λ l. is_lt (cmp (key x) l)) (map key xs)) _ h))
      ∙ first xs (first_so (list_all (λ l. is_lt (cmp (key x) l)) (map key xs)) _ h)
    where
      first : (ys : List X) → list_all (λ l. is_lt (cmp (key x) l)) (map key ys) ≡ true → placed cmp key x ys ≡ x ∷ ys
      first [] g = refl
      first (y ∷ ys) g = ap (λ r. by_order r (x ∷ y ∷ ys) (x ∷ ys) (y ∷ placed cmp key x ys)) (lt_was _ (first_so _ _ g))

  module _ (same : K → K → Bool) (o : IsTotalOrder cmp) (same-is : (a b : K) → same a b ≡ true → a ≡ b) where
    -- ascending keys differ
    pub keys_apart : (xs : List X) → rises cmp (map key xs) ≡ true → IsDistinct (λ (a : X) (b : X). same (key a) (key b)) xs
    unfolding IsDistinct
    keys_apart [] h = tt
    keys_apart (x ∷ xs) h =
        (none xs (first_so (list_all (λ l. is_lt (cmp (key x) l)) (map key xs)) _ h), keys_apart xs (second_so (list_all (λ l. is_lt (cmp (key x) l)) (map key xs)) _ h))
      where
        apart : (k : K) → cmp (key x) k ≡ Less → same (key x) k ≡ false
        apart k lt = elim (told (same (key x) k)) [
          | inl e ↦ absurd (let t : cmp (key x) k ≡ Equal = ap (cmp (key x)) (sym (same-is (key x) k e)) ∙ tied_itself o (key x) in cc)
          | inr e ↦ e
        ]

        none : (ys : List X) → list_all (λ l. is_lt (cmp (key x) l)) (map key ys) ≡ true → AllByRecursion (λ (b : X). same (key x) (key b) ≡ false) ys
        none [] g = tt
        none (y ∷ ys) g = (apart (key y) (lt_was _ (first_so _ _ g)), none ys (second_so (is_lt (cmp (key x) (key y))) _ g))

key_of : Attr → List ℕ
key_of a = a.key

-- entries with their keys in order
keys_stay : (e : Entry) → has_rising_keys e ≡ true → with_keys_in_order e ≡ e
keys_stay e h = λ i. record e { attrs = ordered_stays bytes_cmp (λ (a : Attr). a.key) e.attrs h i }

all_stay : (es : List Entry) → ((e : Entry) → Split es e → has_rising_keys e ≡ true) → map with_keys_in_order es ≡ es
all_stay [] h = refl
all_stay (e ∷ es) h = λ i. keys_stay e (h e (head e es)) i ∷ all_stay es (λ f s. h f (later e es f s)) i

all_differ : (es : List Entry) → ((e : Entry) → Split es e → has_rising_keys e ≡ true) → AllByRecursion KeysDiffer es
all_differ [] h = tt
all_differ (e ∷ es) h = (keys_apart bytes_cmp (λ (a : Attr). a.key) same_bytes bytes_total same_bytes-is e.attrs (h e (head e es)), all_differ es (λ f s. h f (later e es f s)))

pub tree_is : (es : List Entry) → ((e : Entry) → Split es e → has_rising_keys e ≡ true) → tree_of es ≡ in_order es
tree_is es h = ap in_order (all_stay es h)

pub buildable : (es : List Entry) → ((e : Entry) → Split es e → has_rising_keys e ≡ true) → NamesDiffer es → IsSaneMap (entry_of (in_order es)) → IsBuildable es
buildable es h names sane = record {
  names = names;
  keys = all_differ es h;
  sane = subst (λ (t : Tree). IsSaneMap (entry_of t)) (sym (tree_is es h)) sane;
}

module _ (m : Merge) (order : IsInOrder m) (clear : AreClear m) (dirs : ParentsAreDirs m.nodes) where
  abbrev is_tidy : IsTidy m.nodes
  is_tidy = tidy m clear.0 order clear.1 clear.2

  before_sane : IsSane (tree_before m.nodes)
  before_sane = before_is_sane m order is_tidy dirs

  before_keyed : (e : Entry) → Split (tree_before m.nodes) e → has_rising_keys e ≡ true
  before_keyed e s = one_of has_rising_keys (tree_before m.nodes) e (second_so _ _ before_sane.ordered) s

  pub before_buildable : IsBuildable (tree_before m.nodes)
  before_buildable =
      let rising = first_so _ _ before_sane.ordered in
      buildable (tree_before m.nodes) before_keyed
      (keys_apart name_cmp (λ (e : Entry). e.name) same_name names_total same_name-is (tree_before m.nodes) rising)
      (subst (λ (t : Tree). IsSaneMap (entry_of t)) (sym (ordered_stays name_cmp (λ (e : Entry). e.name) (tree_before m.nodes) rising)) before_sane.sane)

  pub before_is : tree_of (tree_before m.nodes) ≡ tree_before m.nodes
  before_is = tree_is (tree_before m.nodes) before_keyed ∙ ordered_stays name_cmp (λ (e : Entry). e.name) (tree_before m.nodes) (first_so _ _ before_sane.ordered)

  -- where no node is reborn, the tree has the same names in every revision
  pub before_is_result : list_any (λ (d : Decision). d.reborn) m.nodes ≡ false → (id : Id) → tree_before m.nodes ≡ result_of m id
  before_is_result none id = sym before_is ∙ tree_is (tree_before m.nodes) before_keyed ∙ sym (ap in_order (as_before m.nodes none id))

  module _ (id : Id) (fresh : NoneBornIn m.nodes id) where
    abbrev after : List Entry
    after = map (new_entry m.nodes id) m.nodes

    after_keyed : (e : Entry) → Split after e → has_rising_keys e ≡ true
    after_keyed e s =
        let u = of_map (new_entry m.nodes id) m.nodes e s in
        ap has_rising_keys (sym u.2) ∙ keyed m id order is_tidy dirs fresh u.0 u.1

    names_apart : (xs : List Decision) → ((x : Decision) → Split xs x → Split m.nodes x) → rises name_cmp (map name_of xs) ≡ true → NamesDiffer (map (new_entry m.nodes id) xs)
    unfolding IsDistinct
    names_apart [] sub h = tt
    names_apart (x ∷ xs) sub h = (
      none xs (λ y s. sub y (later x xs y s)) (first_so (list_all (λ l. is_lt (name_cmp x.name l)) (map name_of xs)) _ h),
      names_apart xs (λ y s. sub y (later x xs y s)) (second_so (list_all (λ l. is_lt (name_cmp x.name l)) (map name_of xs)) _ h),
    )
      where
        apart : (y : Decision) → Split m.nodes y → name_cmp x.name y.name ≡ Less → same_name (new_name m.nodes id x) (new_name m.nodes id y) ≡ false
        apart y s lt = elim (told (same_name (new_name m.nodes id x) (new_name m.nodes id y))) [
          | inl e ↦ absurd (
              let g : x ≡ y = one_name m id order is_tidy dirs fresh x y (distinct m.nodes order.names x (sub x (head x xs))) (distinct m.nodes order.names y s) (same_name-is _ _ e) in
              let t : name_cmp x.name y.name ≡ Equal = ap (name_cmp x.name) (sym (ap name_of g)) ∙ tied_itself names_total x.name in
              cc)
          | inr e ↦ e
        ]

        none : (ys : List Decision) → ((y : Decision) → Split ys y → Split m.nodes y) → list_all (λ l. is_lt (name_cmp x.name l)) (map name_of ys) ≡ true →
            AllByRecursion (λ (e : Entry). same_name (new_name m.nodes id x) e.name ≡ false) (map (new_entry m.nodes id) ys)
        none [] sub' g = tt
        none (y ∷ ys) sub' g = (apart y (sub' y (head y ys)) (lt_was _ (first_so _ _ g)), none ys (λ z s. sub' z (later y ys z s)) (second_so (is_lt (name_cmp x.name y.name)) _ g))

    pub after_buildable : IsBuildable after
    after_buildable = buildable after after_keyed (names_apart m.nodes (λ x s. s) order.names) (merged_is_sane m clear.0 id order clear.1 clear.2 dirs fresh).sane

    pub after_is : tree_of after ≡ result_of m id
    after_is = tree_is after after_keyed
