-- The kept children of a node, among its children and among all nodes.
use Rattle.std.specs.Prelude.{◌&&◌, filter, map}
use Rattle.std.specs.List.{list_any, IsDistinct}
use Rattle.std.specs.declared.cmp.Ordering.TheVariants.{Equal}
use Rattle.std.specs.Cmp.{both_ways, first_so, second_so, tied_itself}
use Rattle.std.proofs.Common.{◌≡◌, ℕ, ◌<◌, Bool, true, false, List, [], ◌∷◌, ◌++◌, length, get_or, refl, sym, ◌∙◌, ap, subst, arith, ⊎_elim}
use Rattle.std.proofs.lemmas.Map.Keys.{IsDistinct-from_apart}
use Rattle.mtn_base.specs.Names.{same_bytes, bytes_cmp, name_cmp}
use Rattle.mtn_base.specs.declared.name.NodeName.{NodeName}
use Rattle.mtn_roster.specs.declared.entry.Entry.{Entry}
use Rattle.mtn_roster.specs.declared.entry.Slot.TheVariants.{Below}
use Rattle.mtn_roster.specs.Tree.{Tree, entry_of, IsSane}
use Rattle.mtn_base.specs.Lists.{is_some_with}
use Rattle.mtn_roster.specs.Walk.{is_below, component, children_of}
use Rattle.mtn_base.proofs.Finding.{Split, later, some_passes, list_any-here}
use Rattle.mtn_base.proofs.Members.{head, split_cons, taken}
use Rattle.mtn_base.proofs.Tests.{both_true, same_bytes-is, same_bytes-self}
use Rattle.mtn_roster.proofs.Ordered.{forest_of}
use Rattle.mtn_base.proofs.Orders.{bytes_total, names_total, exact_bytes}
use Rattle.mtn_base.proofs.Sorting.{no_split, of_ordered, in_ordered, less_at}
use Rattle.mtn_roster.proofs.Walking.{of_filter, in_filter, filter_rises, below_slot}
use Rattle.mtn_changeset_laws.specs.Laws.{IsOldTree}

pub any_at : {X : Type 0} (f : X → Bool) (xs : List X) (x : X) → Split xs x → f x ≡ true → list_any f xs ≡ true
any_at f xs x s h = ap (list_any f) s.is ∙ list_any-here f s.before s.rest x h

pub in_map : {X Y : Type 0} (f : X → Y) (xs : List X) (x : X) → Split xs x → Split (map f xs) (f x)
in_map {X} {Y} f xs x s = subst (λ l. Split (map f l) (f x)) (sym s.is) (go s.before)
  where
    go : (before : List X) → Split (map f (before ++ x ∷ s.rest)) (f x)
    go [] = head (f x) (map f s.rest)
    go (b ∷ before) = later (f b) (map f (before ++ x ∷ s.rest)) (f x) (go before)

pub of_map : {X Y : Type 0} (f : X → Y) (xs : List X) (y : Y) → Split (map f xs) y → (x : X) × Split xs x × (f x ≡ y)
of_map f [] y s = absurd (no_split y s)
of_map f (x ∷ xs) y s = ⊎_elim
    (λ e. (x, head x xs, e))
    (λ t. let r = of_map f xs y t in (r.0, later x xs r.0 r.1, r.2))
    (split_cons (f x) (map f xs) y s)

module _ (t : Tree) (sane : IsSane t) (n : NodeName) where
  abbrev below : List Entry
  below = filter (λ (e : Entry). is_below n e.slot) t

  abbrev comp : Entry → List ℕ
  comp e = component e.slot

  slot_is : (e : Entry) → Split below e → e.slot ≡ Below n (comp e)
  slot_is e s = below_slot n e.slot (of_filter (λ (e : Entry). is_below n e.slot) t e s).1

  apart : IsDistinct (λ (e : Entry) (f : Entry). same_bytes (comp e) (comp f)) below
  apart = IsDistinct-from_apart (λ (e : Entry) (f : Entry). same_bytes (comp e) (comp f)) below (λ i j d lt low.
      let li : i < length below = omega arith in
      let a = taken below i li in
      let b = taken below j low in
      let e = get_or below i d in
      let f = get_or below j d in
      elim (same_bytes (comp e) (comp f)) as (λ b. same_bytes (comp e) (comp f) ≡ b → b ≡ false) [
        | false ↦ λ q. refl
        | true ↦ λ q. absurd (
            let se : Split below e = subst (Split below) (sym (a.3 d)) a.2 in
            let sf : Split below f = subst (Split below) (sym (b.3 d)) b.2 in
            let slots : e.slot ≡ f.slot = slot_is e se ∙ ap (Below n) (same_bytes-is (comp e) (comp f) q) ∙ sym (slot_is f sf) in
            let fe = (forest_of t sane).distinct e (of_filter (λ (e : Entry). is_below n e.slot) t e se).0 in
            let ff = (forest_of t sane).distinct f (of_filter (λ (e : Entry). is_below n e.slot) t f sf).0 in
            let name : e.name ≡ f.name = sane.sane.slots e.name f.name e f fe ff slots in
            let less = less_at name_cmp (λ (e : Entry). e.name) names_total below i j d (filter_rises (λ (e : Entry). is_below n e.slot) name_cmp (λ (e : Entry). e.name) t (first_so _ _ sane.ordered)) lt low in
            let equal : name_cmp e.name f.name ≡ Equal = ap (name_cmp e.name) (sym name) ∙ tied_itself names_total e.name in
            cc)
      ] refl)

  child_in : (e : Entry) → Split below e → Split (children_of t n) e
  child_in e s = in_ordered bytes_cmp comp bytes_total same_bytes same_bytes-is same_bytes-self exact_bytes below apart e s

  module _ (K : Entry → Bool) where
    abbrev kept_name : NodeName → Bool
    kept_name m = is_some_with K (entry_of t m)

    abbrev kept_below : Entry → Bool
    kept_below e = is_below n e.slot && K e

    name_kept : (e : Entry) → Split t e → kept_name e.name ≡ K e
    name_kept e s = ap (is_some_with K) ((forest_of t sane).distinct e s)

    kept_same : list_any kept_name (map (λ (e : Entry). e.name) (children_of t n)) ≡ list_any kept_below t
    kept_same = both_ways (list_any kept_name (map (λ (e : Entry). e.name) (children_of t n))) (list_any kept_below t)
        (λ h.
        let y = some_passes kept_name (map (λ (e : Entry). e.name) (children_of t n)) h in
        let c = of_map (λ (e : Entry). e.name) (children_of t n) y.0 y.1.at in
        let e : Entry = c.0 in
        let f = of_filter (λ (e : Entry). is_below n e.slot) t e (of_ordered bytes_cmp comp bytes_total below e c.1) in
        any_at kept_below t e f.0 (both_true _ _ f.1 (sym (name_kept e f.0) ∙ ap kept_name c.2 ∙ y.1.passes)))
        (λ h.
        let y = some_passes kept_below t h in
        let e : Entry = y.0 in
        let in_below = in_filter (λ (e : Entry). is_below n e.slot) t e y.1.at (first_so _ _ y.1.passes) in
        any_at kept_name (map (λ (e : Entry). e.name) (children_of t n)) e.name (in_map (λ (e : Entry). e.name) (children_of t n) e (child_in e in_below))
        (name_kept e y.1.at ∙ second_so (is_below n e.slot) _ y.1.passes))

pub kept_children : (t : Tree) (n : NodeName) (K : Entry → Bool) → IsOldTree t →
    list_any (λ m. is_some_with K (entry_of t m)) (map (λ (e : Entry). e.name) (children_of t n)) ≡ list_any (λ (e : Entry). is_below n e.slot && K e) t
kept_children t n K h = ⊎_elim
    (λ e. ap (λ (v : Tree). list_any (λ m. is_some_with K (entry_of v m)) (map (λ (e : Entry). e.name) (children_of v n))) e ∙ ap (λ (v : Tree). list_any (λ (e : Entry). is_below n e.slot && K e) v) (sym e))
    (λ s. kept_same t s n K) h
