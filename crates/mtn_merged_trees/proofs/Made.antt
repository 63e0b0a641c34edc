-- The nodes of the tree that decisions make, and their paths.
use Rattle.std.specs.Prelude.{map, reverse, option_map, option_and_then, find}
use Rattle.std.specs.Option.{option_map_or}
use Rattle.std.proofs.Common.{◌≡◌, ℕ, Bool, true, false, cond, List, [], ◌∷◌, Some, refl, sym, ◌∙◌, ap, subst}
use Rattle.mtn_base.specs.Names.{same_name, same_bytes}
use Rattle.mtn_base.specs.declared.id.Id.{Id}
use Rattle.mtn_base.specs.declared.name.NodeName.{NodeName}
use Rattle.mtn_roster.specs.declared.entry.Attr.{Attr}
use Rattle.mtn_roster.specs.declared.entry.Entry.{Entry}
use Rattle.mtn_roster.specs.declared.entry.Slot.TheVariants.{Root, Below}
use Rattle.mtn_roster.specs.Tree.{Tree, entry_of, at_slot, child_of, node_up, node_at, path_of, attr_of, is_dir_body, IsSane}
use Rattle.mtn_base.proofs.Finding.{found, finds_some}
use Rattle.mtn_roster.proofs.Forest.{IsForest, at_slot-is, at_slot-of, node_below, node_there}
use Rattle.mtn_roster.proofs.Looking.{entry_of-in_order}
use Rattle.mtn_roster.proofs.Ordered.{forest_of}
use Rattle.mtn_roster.proofs.Pathing.{path_leads, path_of-at}
use Rattle.mtn_base.proofs.Tests.{same_name-is, same_name-self}
use Rattle.mtn_decide.specs.declared.decision.AttrDecision.{AttrDecision}
use Rattle.mtn_decide.specs.declared.decision.ContentChoice.{ContentChoice}
use Rattle.mtn_decide.specs.declared.decision.ContentChoice.TheVariants.{Absent, Fixed as FixedContent, Clash as ContentClash}
use Rattle.mtn_decide.specs.declared.decision.Decision.{Decision}
use Rattle.mtn_decide.specs.Decisions.{Merge, IsInOrder, decision_of, choice_of, is_absent}
use Rattle.mtn_conflicts.specs.Result.{decided_slot, decided_body, decided_value, decided_attr, decided_entry, tree_before, new_name, new_slot, new_entry, result_of, ParentsAreDirs, NoneBornIn}
use Rattle.mtn_conflicts.proofs.Nodes.{found_at, own, distinct, node_before, has_entry}
use Rattle.mtn_conflicts.proofs.Clear.{IsTidy}
use Rattle.mtn_conflicts.proofs.Before.{same_test, before_is_sane}
use Rattle.mtn_conflicts.proofs.Renamed.{in_map, of_map, one_name, result_is_sane}

-- the attributes of a decided node
pub attrs_are : (as' : List AttrDecision) (k : List ℕ) → attr_of (map decided_attr as') k ≡ option_map decided_value (choice_of as' k)
attrs_are [] k = refl
attrs_are (a ∷ as') k =
    elim (same_bytes a.key k) as (λ b. option_map (λ (x : Attr). x.value) (cond b (Some (decided_attr a)) (find (λ (x : Attr). same_bytes x.key k) (map decided_attr as')))
    ≡ option_map decided_value (option_map (λ (x : AttrDecision). x.choice) (cond b (Some a) (find (λ (x : AttrDecision). same_bytes x.key k) as')))) [
      | true ↦ refl
      | false ↦ attrs_are as' k
    ]

body_dir : (c : ContentChoice) → is_dir_body (decided_body c) ≡ is_absent c
body_dir Absent = refl
body_dir (FixedContent c) = refl
body_dir (ContentClash l r) = refl

module _ (m : Merge) (id : Id) (order : IsInOrder m) (tidy : IsTidy m.nodes) (dirs : ParentsAreDirs m.nodes) (fresh : NoneBornIn m.nodes id) where
  abbrev ds : List Decision
  ds = m.nodes

  abbrev t : Tree
  t = result_of m id

  abbrev before : Tree
  before = tree_before ds

  pub whole : IsSane t
  whole = result_is_sane m id order tidy dirs fresh

  forest : IsForest t
  forest = forest_of t whole

  forest_before : IsForest before
  forest_before = forest_of before (before_is_sane m order tidy dirs)

  -- the decision behind a node of the tree
  pub record IsOf (n : NodeName) (e : Entry) : Type 0 where
    pub node : Decision
    pub there : decision_of ds node.name ≡ Some node
    pub is : new_entry ds id node ≡ e
    pub name : new_name ds id node ≡ n

  pub made_of : (n : NodeName) (e : Entry) → entry_of t n ≡ Some e → IsOf n e
  made_of n e h =
      let f = found (λ (e : Entry). same_name e.name n) (map (new_entry ds id) ds) e (sym (entry_of-in_order (map (new_entry ds id) ds) n) ∙ h) in
      let u = of_map (new_entry ds id) ds e f.at in
      record { node = u.0; there = distinct ds order.names u.0 u.1; is = u.2; name = ap (λ (e : Entry). e.name) u.2 ∙ same_name-is e.name n f.passes }

  pub has : (d : Decision) → decision_of ds d.name ≡ Some d → entry_of t (new_name ds id d) ≡ Some (new_entry ds id d)
  has d h =
      let n = new_name ds id d in
      let y = finds_some (λ (e : Entry). same_name e.name n) (map (new_entry ds id) ds) (new_entry ds id d) (in_map (new_entry ds id) ds d (found_at ds d.name d h)) (same_name-self n) in
      let f = found (λ (e : Entry). same_name e.name n) (map (new_entry ds id) ds) y.0 y.1 in
      let u = of_map (new_entry ds id) ds y.0 f.at in
      let g : new_name ds id u.0 ≡ new_name ds id d = ap (λ (e : Entry). e.name) u.2 ∙ same_name-is y.0.name n f.passes in
      let same : u.0 ≡ d = one_name m id order tidy dirs fresh u.0 d (distinct ds order.names u.0 u.1) h g in
      entry_of-in_order (map (new_entry ds id) ds) n ∙ y.1 ∙ ap Some (sym u.2 ∙ ap (new_entry ds id) same)

  -- its kind
  pub kind_is : (d : Decision) → decision_of ds d.name ≡ Some d → is_dir_body (decided_body d.content) ≡ d.is_dir
  kind_is d h = body_dir d.content ∙ same_test (λ (d : Decision). is_absent d.content) (λ (d : Decision). d.is_dir) ds order.kinds d (found_at ds d.name d h)

  -- its name, where it is not reborn, and where it is
  pub kept_name : (d : Decision) → d.reborn ≡ false → new_name ds id d ≡ d.name
  kept_name d r = ap (λ (b : Bool). cond b (record { birth = id; path = path_of before (decided_entry d) }) d.name) r

  pub reborn_name : (d : Decision) → d.reborn ≡ true → new_name ds id d ≡ record { birth = id; path = path_of before (decided_entry d) }
  reborn_name d r = ap (λ (b : Bool). cond b (record { birth = id; path = path_of before (decided_entry d) }) d.name) r

  -- new names keep the paths
  leads : (up : List (List ℕ)) (d : Decision) → decision_of ds d.name ≡ Some d → node_up before up ≡ Some (decided_entry d) → node_up t up ≡ Some (new_entry ds id d)
  leads [] d h k =
      let root : decided_slot d.slot ≡ Root = (at_slot-is before forest_before Root (decided_entry d) k).0 in
      subst (λ s. at_slot t s ≡ Some (new_entry ds id d)) (ap (new_slot ds id) root) (at_slot-of t forest (new_name ds id d) (new_entry ds id d) (has d h))
  leads (name ∷ up) d h k =
      let b = node_below before forest_before name up (decided_entry d) k in
      let p = node_before ds b.0.name b.0 (node_there before forest_before up b.0 b.1) in
      let above : node_up t up ≡ Some (new_entry ds id p.0) = leads up p.0 (own ds b.0.name p.0 p.1) (b.1 ∙ ap Some (sym p.2)) in
      let slot : new_slot ds id (decided_slot d.slot) ≡ Below (new_name ds id p.0) name =
      ap (new_slot ds id) b.2 ∙ ap (λ o. Below (option_map_or (new_name ds id) o b.0.name) name) p.1 in
      ap (option_and_then (child_of t name)) above
      ∙ subst (λ s. at_slot t s ≡ Some (new_entry ds id d)) slot (at_slot-of t forest (new_name ds id d) (new_entry ds id d) (has d h))

  -- at the path where a node is decided to be stands its node
  pub stands : (d : Decision) → decision_of ds d.name ≡ Some d → node_at t (path_of before (decided_entry d)) ≡ Some (new_entry ds id d)
  stands d h = leads (reverse (path_of before (decided_entry d))) d h (path_leads before forest_before d.name (decided_entry d) (has_entry ds d.name d h))

  pub path_kept : (d : Decision) → decision_of ds d.name ≡ Some d → path_of t (new_entry ds id d) ≡ path_of before (decided_entry d)
  path_kept d h = path_of-at t forest (path_of before (decided_entry d)) (new_entry ds id d) (stands d h)

  -- the path of a node of the tree is where its decision says
  pub decided_path : (p : List (List ℕ)) (e : Entry) → node_at t p ≡ Some e → (o : IsOf e.name e) × (p ≡ path_of before (decided_entry o.node))
  decided_path p e h =
      let o = made_of e.name e (node_there t forest (reverse p) e h) in
      (o, sym (path_of-at t forest p e h) ∙ ap (path_of t) (sym o.is) ∙ path_kept o.node o.there)
