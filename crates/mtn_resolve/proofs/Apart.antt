-- No two nodes that live after resolutions have one name.
use Rattle.std.specs.Prelude.{filter, map, not, IsSome}
use Rattle.std.specs.List.{AllByRecursion, IsDistinct}
use Rattle.std.proofs.Common.{◌≡◌, Bool, false, List, [], ◌∷◌, ◌++◌, inl, inr, refl, sym, ◌∙◌, ap, subst}
use Rattle.mtn_base.specs.Names.{same_name, name_cmp}
use Rattle.mtn_base.proofs.Finding.{Split, later, finds_some}
use Rattle.mtn_base.proofs.Members.{head}
use Rattle.mtn_base.proofs.Orders.{names_total, exact_names}
use Rattle.mtn_base.proofs.Sorting.{rising_differ}
use Rattle.mtn_base.proofs.Tests.{told, same_name-is, same_name-self}
use Rattle.mtn_decide.specs.declared.decision.Decision.{Decision}
use Rattle.mtn_decide.specs.declared.decision.Pending.{Pending}
use Rattle.mtn_decide.specs.Decisions.{Merge, IsInOrder}
use Rattle.mtn_conflicts.proofs.Nodes.{distinct}
use Rattle.mtn_conflicts.proofs.Renamed.{of_map}
use Rattle.mtn_resolve.specs.declared.resolution.Resolution.{Resolution}
use Rattle.mtn_resolve.specs.Overriding.{is_dropped, is_kept, new_node, reborn_of, living}
use Rattle.mtn_resolve.proofs.Ordered.{of_filter, rises_left}

rec_of : {X : Type 0} (P : X → Type 0) (xs : List X) → ((x : X) → Split xs x → P x) → AllByRecursion P xs
rec_of P [] h = tt
rec_of P (x ∷ xs) h = (h x (head x xs), rec_of P xs (λ y s. h y (later x xs y s)))

distinct_append : {X : Type 0} (same : X → X → Bool) (xs ys : List X) → IsDistinct same xs → IsDistinct same ys → ((x y : X) → Split xs x → Split ys y → same x y ≡ false) → IsDistinct same (xs ++ ys)
unfolding IsDistinct
distinct_append same [] ys h g apart = g
distinct_append same (x ∷ xs) ys h g apart = (
  rec_append xs h.0,
  distinct_append same xs ys h.1 g (λ z y s t. apart z y (later x xs z s) t),
)
  where
    rec_append : (zs : List _) → AllByRecursion (λ y. same x y ≡ false) zs → AllByRecursion (λ y. same x y ≡ false) (zs ++ ys)
    rec_append [] k = rec_of (λ y. same x y ≡ false) ys (λ y t. apart x y (head x xs) t)
    rec_append (z ∷ zs) k = (k.0, rec_append zs k.1)

distinct_map : {X Y : Type 0} (f : X → Y) (same : Y → Y → Bool) (xs : List X) → IsDistinct (λ (x : X) (z : X). same (f x) (f z)) xs → IsDistinct same (map f xs)
unfolding IsDistinct
distinct_map f same [] h = tt
distinct_map {X} f same (x ∷ xs) h = (rec_map xs h.0, distinct_map f same xs h.1)
  where
    rec_map : (zs : List X) → AllByRecursion (λ (z : X). same (f x) (f z) ≡ false) zs → AllByRecursion (λ y. same (f x) y ≡ false) (map f zs)
    rec_map [] k = tt
    rec_map (z ∷ zs) k = (k.0, rec_map zs k.1)

abbrev pub is_namesake : Decision → Decision → Bool
is_namesake d e = same_name d.name e.name

module _ (m : Merge) (rs : List Resolution) (order : IsInOrder m) where
  abbrev left : List Decision
  left = filter (λ (d : Decision). not (is_dropped rs d.name)) m.nodes

  abbrev kept : List Pending
  kept = filter (λ (p : Pending). is_kept rs p.entry.name) m.pending

  left_apart : IsDistinct is_namesake left
  left_apart = rising_differ name_cmp (λ (d : Decision). d.name) names_total same_name same_name-is same_name-self exact_names left
      (rises_left name_cmp (λ (d : Decision). d.name) (λ (d : Decision). not (is_dropped rs d.name)) m.nodes order.names)

  kept_apart : IsDistinct is_namesake (map reborn_of kept)
  kept_apart = distinct_map reborn_of is_namesake kept
      (rising_differ name_cmp (λ (p : Pending). p.entry.name) names_total same_name same_name-is same_name-self exact_names kept
      (rises_left name_cmp (λ (p : Pending). p.entry.name) (λ (p : Pending). is_kept rs p.entry.name) m.pending order.pending_names))

  both_apart : (d e : Decision) → Split left d → Split (map reborn_of kept) e → is_namesake d e ≡ false
  both_apart d e s t = elim (told (same_name d.name e.name)) [
    | inl g ↦
        let u = of_map reborn_of kept e t in
        let p : Pending = u.0 in
        let there = (of_filter (λ (p : Pending). is_kept rs p.entry.name) m.pending p u.1).0 in
        let name : d.name ≡ p.entry.name = same_name-is d.name e.name g ∙ sym (ap (λ (x : Decision). x.name) u.2) in
        let live = distinct m.nodes order.names d (of_filter (λ (d : Decision). not (is_dropped rs d.name)) m.nodes d s).0 in
        let gone = order.apart d.name (subst IsSome (sym live) refl) in
        let found = finds_some (λ (q : Pending). same_name q.entry.name d.name) m.pending p there (ap (same_name p.entry.name) name ∙ same_name-self p.entry.name) in
        absurd (let f = found.1 in cc)
    | inr g ↦ g
  ]

  pub living_apart : IsDistinct is_namesake (living rs m)
  living_apart = distinct_append is_namesake left (map reborn_of kept) left_apart kept_apart both_apart

  pub new_apart : IsDistinct is_namesake (map (new_node rs) (living rs m))
  new_apart = distinct_map (new_node rs) is_namesake (living rs m) living_apart
