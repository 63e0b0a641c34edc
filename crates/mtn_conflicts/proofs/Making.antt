-- What the parts of a merged tree are.
use Rattle.std.specs.Prelude.{map, option_map, slice_get, if◌then◌else◌}
use Rattle.std.specs.Option.{option_map_or}
use Rattle.std.proofs.Common.{◌≡◌, ℕ, ◌<◌, true, List, length, get_or, Option, Some, sym, ◌∙◌, ap, subst}
use Rattle.mtn_base.specs.Names.{name_cmp}
use Rattle.mtn_base.specs.declared.id.Id.{Id}
use Rattle.mtn_base.specs.declared.name.NodeName.{NodeName}
use Rattle.mtn_roster.specs.Tree.{Tree, entry_of, path_of}
use Rattle.mtn_base.specs.Lists.{rises}
use Rattle.mtn_roster.specs.declared.entry.Slot.{Slot}
use Rattle.mtn_roster.specs.declared.entry.Slot.TheVariants.{Below}
use Rattle.mtn_base.proofs.Members.{taken}
use Rattle.mtn_decide.specs.declared.decision.Decision.{Decision}
use Rattle.mtn_decide.specs.Decisions.{decision_of}
use Rattle.mtn_conflicts.specs.Result.{decided_entry, tree_before, new_name, new_slot}
use Rattle.mtn_conflicts.proofs.Nodes.{name_of, has_entry, distinct}

pub path_is : (ds : List Decision) (t : Tree) → t ≡ tree_before ds → (d : Decision) → decision_of ds d.name ≡ Some d → (o : Option (List (List ℕ))) →
    o ≡ option_map (path_of t) (entry_of t d.name) → o ≡ Some (path_of (tree_before ds) (decided_entry d))
path_is ds t e d h o is = is ∙ (λ i. option_map (path_of (e i)) (entry_of (e i) d.name)) ∙ ap (option_map (path_of (tree_before ds))) (has_entry ds d.name d h)

pub named : (ds : List Decision) (id : Id) (d : Decision) (path : List (List ℕ)) → d.reborn ≡ true → Some path ≡ Some (path_of (tree_before ds) (decided_entry d)) →
    record { birth = id; path = path } ≡ new_name ds id d
named ds id d path r e =
    let g : path ≡ path_of (tree_before ds) (decided_entry d) = cc in
    (λ i. record { birth = id; path = g i })
    ∙ sym (ap (λ b. if b then record { birth = id; path = path_of (tree_before ds) (decided_entry d) } else d.name) r)

pub place_there : (ds : List Decision) (p : NodeName) (i : ℕ) (d : Decision) → i < length ds → d ≡ get_or ds i d → slice_get ds i ≡ decision_of ds p → decision_of ds p ≡ Some d
place_there ds p i d lt is e = let t = taken ds i lt in sym e ∙ t.1 ∙ ap Some (sym (t.3 d) ∙ sym is)

-- the node at a place has its own name
pub own_at : (ds : List Decision) → rises name_cmp (map name_of ds) ≡ true → (i : ℕ) (d : Decision) → i < length ds → d ≡ get_or ds i d → decision_of ds d.name ≡ Some d
own_at ds h i d lt is =
    let t = taken ds i lt in
    let g : t.0 ≡ d = sym (t.3 d) ∙ sym is in
    subst (λ x. decision_of ds x.name ≡ Some x) g (distinct ds h t.0 t.2)

pub slot_made : (ds : List Decision) (id : Id) (s : Slot) (p : NodeName) (c : List ℕ) (d : Decision) (n : NodeName) (c' : List ℕ) → s ≡ Below p c → decision_of ds p ≡ Some d →
    n ≡ new_name ds id d → c' ≡ c → Below n c' ≡ new_slot ds id s
slot_made ds id s p c d n c' is h e f =
    (λ i. Below (e i) (f i)) ∙ sym (ap (λ o. Below (option_map_or (new_name ds id) o p) c) h) ∙ sym (ap (new_slot ds id) is)
