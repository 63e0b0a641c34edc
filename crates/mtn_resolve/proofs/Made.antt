-- The lists that are made are those of the overridden decisions.
use Rattle.std.specs.Prelude.{filter, map, not, IsTrue, ◌↔◌}
use Rattle.std.specs.List.{IsDistinct}
use Rattle.std.proofs.Common.{◌≡◌, Bool, List, ◌++◌, sym, ◌∙◌, ap, subst}
use Rattle.std.proofs.lemmas.List.{map-append}
use Rattle.mtn_base.specs.Names.{name_cmp}
use Rattle.mtn_base.specs.Lists.{ordered}
use Rattle.mtn_decide.specs.declared.decision.Decision.{Decision}
use Rattle.mtn_decide.specs.declared.decision.Pending.{Pending}
use Rattle.mtn_decide.specs.Decisions.{Merge, IsInOrder}
use Rattle.mtn_resolve.specs.declared.resolution.Resolution.{Resolution}
use Rattle.mtn_resolve.specs.Overriding.{is_dropped, is_kept, new_node, reborn_of, living, still_pending, overridden}
use Rattle.mtn_resolve.specs.Parts.{undropped_after, kept_after}
use Rattle.mtn_resolve.proofs.Apart.{is_namesake, new_apart}
use Rattle.mtn_resolve.proofs.Ordered.{in_order}

module _ (m : Merge) (rs : List Resolution) (order : IsInOrder m) where
  all_is : undropped_after rs m.nodes ++ kept_after rs m.pending ≡ map (new_node rs) (living rs m)
  all_is = sym (map-append (new_node rs) (filter (λ (d : Decision). not (is_dropped rs d.name)) m.nodes) (map reborn_of (filter (λ (p : Pending). is_kept rs p.entry.name) m.pending)))

  pub nodes_are : (first all sorted : List Decision) (r : Bool) → first ≡ undropped_after rs m.nodes → all ≡ first ++ kept_after rs m.pending →
      (IsTrue r ↔ IsDistinct is_namesake all) → (IsTrue r → sorted ≡ ordered name_cmp (λ (d : Decision). d.name) all) → sorted ≡ (overridden rs m).nodes
  nodes_are first all sorted r f g apart put =
      let is : all ≡ map (new_node rs) (living rs m) = g ∙ ap (λ l. l ++ kept_after rs m.pending) f ∙ all_is in
      put (apart.1 (subst (IsDistinct is_namesake) (sym is) (new_apart m rs order))) ∙ ap (ordered name_cmp (λ (d : Decision). d.name)) is

  pub merge_is : (sorted : List Decision) (pending : List Pending) → sorted ≡ (overridden rs m).nodes → pending ≡ still_pending rs m.pending → overridden rs m ≡ record { nodes = sorted; pending = pending }
  merge_is sorted pending f g = λ i. record { nodes = sym f i; pending = sym g i }

  pub is_in_order : (sorted : List Decision) (pending : List Pending) → sorted ≡ (overridden rs m).nodes → pending ≡ still_pending rs m.pending → IsInOrder (record { nodes = sorted; pending = pending })
  is_in_order sorted pending f g = subst IsInOrder (merge_is sorted pending f g) (in_order m rs order)
