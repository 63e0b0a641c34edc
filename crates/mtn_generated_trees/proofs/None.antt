-- Without resolutions the decisions are as they were.
use Rattle.std.specs.Prelude.{filter, map, not}
use Rattle.std.proofs.Common.{◌≡◌, List, [], ◌∷◌, ◌++◌, refl, sym, ◌∙◌, ap}
use Rattle.std.proofs.lemmas.List.{append-nil}
use Rattle.std.proofs.lemmas.List.Sorted.{IsPermutation-refl}
use Rattle.mtn_base.specs.Lists.{ordered}
use Rattle.mtn_base.specs.Names.{name_cmp, same_name}
use Rattle.mtn_base.proofs.Orders.{exact_names, names_total}
use Rattle.mtn_base.proofs.Sorting.{rising_differ, sorted_is}
use Rattle.mtn_base.proofs.Tests.{same_name-is, same_name-self}
use Rattle.mtn_decide.specs.declared.decision.AttrDecision.{AttrDecision}
use Rattle.mtn_decide.specs.declared.decision.Decision.{Decision}
use Rattle.mtn_decide.specs.declared.decision.Pending.{Pending}
use Rattle.mtn_decide.specs.Decisions.{IsInOrder, Merge}
use Rattle.mtn_resolve.specs.Overriding.{is_dropped, is_kept, living, new_attr, new_node, overridden, reborn_of, still_pending}
use Rattle.mtn_base.specs.declared.name.NodeName.{NodeName}

same_attrs : (n : NodeName) (as' : List AttrDecision) → map (new_attr [] n) as' ≡ as'
same_attrs n [] = refl
same_attrs n (a ∷ as') = ap (λ l. a ∷ l) (same_attrs n as')

same_nodes : (ds : List Decision) → map (new_node []) ds ≡ ds
same_nodes [] = refl
same_nodes (d ∷ ds) = λ i. record d { attrs = same_attrs d.name d.attrs i } ∷ same_nodes ds i

all_live : (ds : List Decision) → filter (λ (d : Decision). not (is_dropped [] d.name)) ds ≡ ds
all_live [] = refl
all_live (d ∷ ds) = ap (λ l. d ∷ l) (all_live ds)

none_kept : (ps : List Pending) → filter (λ (p : Pending). is_kept [] p.entry.name) ps ≡ []
none_kept [] = refl
none_kept (p ∷ ps) = none_kept ps

all_pending : (ps : List Pending) → still_pending [] ps ≡ ps
all_pending [] = refl
all_pending (p ∷ ps) = ap (λ l. p ∷ l) (all_pending ps)

all_living : (m : Merge) → living [] m ≡ m.nodes
all_living m = ap (λ l. l ++ map reborn_of (filter (λ (p : Pending). is_kept [] p.entry.name) m.pending)) (all_live m.nodes)
    ∙ ap (λ l. m.nodes ++ map reborn_of l) (none_kept m.pending) ∙ append-nil m.nodes

pub not_overridden : (m : Merge) → IsInOrder m → overridden [] m ≡ m
not_overridden m order =
    let nodes = ap (λ l. ordered name_cmp (λ (d : Decision). d.name) (map (new_node []) l)) (all_living m) ∙ ap (ordered name_cmp (λ (d : Decision). d.name)) (same_nodes m.nodes)
    ∙ sym (sorted_is name_cmp (λ (d : Decision). d.name) names_total same_name same_name-is same_name-self exact_names m.nodes m.nodes (IsPermutation-refl m.nodes)
    (rising_differ name_cmp (λ (d : Decision). d.name) names_total same_name same_name-is same_name-self exact_names m.nodes order.names) order.names) in
    let pending = all_pending m.pending in
    λ i. record { nodes = nodes i; pending = pending i }
