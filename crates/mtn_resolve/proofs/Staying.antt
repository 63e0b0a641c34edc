-- What stays of decisions after resolutions.
use Rattle.std.specs.Prelude.{map, option_map, option_and_then, if◌then◌else◌}
use Rattle.std.specs.Option.{option_map_or}
use Rattle.std.specs.declared.cmp.Ordering.{Ordering}
use Rattle.std.specs.declared.cmp.Ordering.TheVariants.{Less, Equal, Greater}
use Rattle.std.specs.Ordering.{is_eq, ordering_then, nat_cmp}
use Rattle.std.proofs.Common.{◌≡◌, Bool, true, false, List, [], ◌∷◌, Option, Some, None, refl, sym, ◌∙◌, ap, subst}
use Rattle.mtn_base.specs.Names.{name_cmp, bytes_cmp}
use Rattle.mtn_base.specs.declared.id.Id.{Id}
use Rattle.mtn_base.specs.declared.name.NodeName.{NodeName}
use Rattle.mtn_roster.specs.declared.entry.Slot.{Slot}
use Rattle.mtn_roster.specs.declared.entry.Slot.TheVariants.{Root, Below}
use Rattle.mtn_base.proofs.Finding.{found, passing_some}
use Rattle.mtn_base.proofs.Orders.{exact_names}
use Rattle.mtn_base.proofs.Sorting.{rec_at}
use Rattle.mtn_decide.specs.declared.decision.AttrDecision.{AttrDecision}
use Rattle.mtn_decide.specs.declared.decision.Decision.{Decision}
use Rattle.mtn_decide.specs.declared.decision.SlotChoice.TheVariants.{Fixed}
use Rattle.mtn_decide.specs.Decisions.{Merge, decision_of, pending_of}
use Rattle.mtn_conflicts.specs.declared.lists.Conflicts.{Conflicts}
use Rattle.mtn_conflicts.specs.Result.{ParentsAreDirs, NoneBornIn}
use Rattle.mtn_conflicts.specs.Slots.{parent_in, parent_of}
use Rattle.mtn_conflicts.proofs.Nodes.{found_name}
use Rattle.mtn_resolve.specs.declared.resolution.Resolution.{Resolution}
use Rattle.mtn_resolve.specs.declared.resolution.Resolution.TheVariants.{Drop, Place, Content, AttrSet, AttrClear, Keep}
use Rattle.mtn_resolve.specs.declared.subject.Subject.{Subject}
use Rattle.mtn_resolve.specs.declared.fault.Fault.TheVariants as one
use Rattle.mtn_resolve.specs.Faults.{names_known, names_dirs, has_conflict, fault_of, is_live_dir, AreFitting}
use Rattle.mtn_resolve.specs.Overriding.{new_slot, new_attr, slot_in, reborn_of, overridden, candidates}
use Rattle.mtn_resolve.specs.Subjects.{subject_cmp, slot_of, is_about, resolution_of}
use Rattle.mtn_resolve.proofs.Looking.{or_else, was, look_candidates}

pub keys_stay : (rs : List Resolution) (n : NodeName) (as' : List AttrDecision) → map (λ (a : AttrDecision). a.key) (map (new_attr rs n) as') ≡ map (λ (a : AttrDecision). a.key) as'
keys_stay rs n [] = refl
keys_stay rs n (a ∷ as') = λ i. a.key ∷ keys_stay rs n as' i

pub scalars_stay : (m : Merge) (rs : List Resolution) (n : NodeName) (e : Decision) → decision_of (overridden rs m).nodes n ≡ Some e →
    (d : Decision) × (decision_of (candidates m) n ≡ Some d) × (e.is_dir ≡ d.is_dir) × (e.reborn ≡ d.reborn)
    × (map (λ (a : AttrDecision). a.key) e.attrs ≡ map (λ (a : AttrDecision). a.key) d.attrs)
scalars_stay m rs n e h =
    let w = was m rs n e h in (
      w.old,
      w.there,
      sym (ap (λ (x : Decision). x.is_dir) w.new),
      sym (ap (λ (x : Decision). x.reborn) w.new),
      sym (ap (λ (x : Decision). map (λ (a : AttrDecision). a.key) x.attrs) w.new) ∙ keys_stay rs w.old.name w.old.attrs,
    )

pub none_born : (m : Merge) (rs : List Resolution) (id : Id) → NoneBornIn (candidates m) id → NoneBornIn (overridden rs m).nodes id
none_born m rs id none n e h = let w = was m rs n e h in none n w.old w.there

-- the same subject has the same node
pub same_node : (s t : Subject) → is_eq (subject_cmp s t) ≡ true → s.node ≡ t.node
same_node s t h = exact_names s.node t.node (inner (name_cmp s.node t.node) (bytes_cmp s.key t.key) (outer (nat_cmp s.kind t.kind) (ordering_then (name_cmp s.node t.node) (bytes_cmp s.key t.key)) h))
  where
    outer : (a b : Ordering) → is_eq (ordering_then a b) ≡ true → is_eq b ≡ true
    outer Less b h = absurd cc
    outer Equal b h = h
    outer Greater b h = absurd cc

    inner : (a b : Ordering) → is_eq (ordering_then a b) ≡ true → a ≡ Equal
    inner Less b h = absurd cc
    inner Equal b h = refl
    inner Greater b h = absurd cc

module _ (m : Merge) (c : Conflicts) (rs : List Resolution) (fitting : AreFitting m c rs) where
  dirs_named : (r : Resolution) → fault_of m c r ≡ None → names_dirs m r ≡ true
  dirs_named r = go (names_known m r) (names_dirs m r) (has_conflict m c r)
    where
      go : (x y z : Bool) → (if x then (if y then (if z then None else Some one.NotAConflict) else Some one.NotADirectory) else Some one.UnknownNode) ≡ None → y ≡ true
      go true true z h = refl
      go true false z h = absurd cc
      go false y z h = absurd cc

  -- a slot that a resolution gives to a node hangs it where it may
  pub placed_well : (n : NodeName) (s : Slot) → option_and_then slot_in (resolution_of rs (slot_of n)) ≡ Some s → names_dirs m (Place n s) ≡ true
  placed_well n s h = go (resolution_of rs (slot_of n)) refl h
    where
      at : (r : Resolution) → resolution_of rs (slot_of n) ≡ Some r → slot_in r ≡ Some s → names_dirs m (Place n s) ≡ true
      at (Place node slot) e g =
          let f = found (is_about (slot_of n)) rs (Place node slot) e in
          let same : node ≡ n = same_node (slot_of node) (slot_of n) f.passes in
          let slots : slot ≡ s = cc in
          subst (λ k. names_dirs m (Place k s) ≡ true) same (subst (λ t. names_dirs m (Place node t) ≡ true) slots
          (dirs_named (Place node slot) (rec_at (λ r. fault_of m c r ≡ None) rs (Place node slot) fitting f.at)))
      at (Drop node) e g = absurd cc
      at (Content node pick) e g = absurd cc
      at (AttrSet node key value) e g = absurd cc
      at (AttrClear node key) e g = absurd cc
      at (Keep node) e g = absurd cc

      go : (o : Option Resolution) → resolution_of rs (slot_of n) ≡ o → option_and_then slot_in o ≡ Some s → names_dirs m (Place n s) ≡ true
      go None e g = absurd cc
      go (Some r) e g = at r e g

  -- a live directory is one among the candidates
  live_dir : (n : NodeName) (d : Decision) → is_live_dir m n ≡ true → decision_of (candidates m) n ≡ Some d → d.is_dir ≡ true
  live_dir n d h g =
      let p = passing_some (λ (d : Decision). d.is_dir) (decision_of m.nodes n) h in
      let q : decision_of (candidates m) n ≡ Some p.0 = look_candidates m rs n ∙ ap (λ o. or_else o (option_map reborn_of (pending_of m.pending n))) p.1 in
      let same : p.0 ≡ d = cc in
      ap (λ (x : Decision). x.is_dir) (sym same) ∙ p.2

  module _ (dirs : ParentsAreDirs (candidates m)) where
    root_stays : (n : NodeName) (d : Decision) → decision_of (candidates m) n ≡ Some d → new_slot rs d.name d.slot ≡ Fixed Root → d.is_dir ≡ true
    root_stays n d h g = go (option_and_then slot_in (resolution_of rs (slot_of d.name))) refl g
      where
        go : (o : Option Slot) → option_and_then slot_in (resolution_of rs (slot_of d.name)) ≡ o → option_map_or Fixed o d.slot ≡ Fixed Root → d.is_dir ≡ true
        go None e k = dirs.root n d h k
        go (Some s) e k =
            let is : s ≡ Root = cc in
            live_dir d.name d (subst (λ t. names_dirs m (Place d.name t) ≡ true) is (placed_well d.name s e)) (ap (decision_of (candidates m)) (found_name (candidates m) n d h) ∙ h)

    parent_stays : (n p : NodeName) (d f : Decision) → decision_of (candidates m) n ≡ Some d → parent_in (new_slot rs d.name d.slot) ≡ Some p → decision_of (candidates m) p ≡ Some f → f.is_dir ≡ true
    parent_stays n p d f h g k = go (option_and_then slot_in (resolution_of rs (slot_of d.name))) refl g
      where
        at : (s : Slot) → option_and_then slot_in (resolution_of rs (slot_of d.name)) ≡ Some s → parent_in (Fixed s) ≡ Some p → f.is_dir ≡ true
        at Root e q = absurd cc
        at (Below parent name) e q =
            let is : parent ≡ p = cc in
            live_dir p f (subst (λ z. is_live_dir m z ≡ true) is (placed_well d.name (Below parent name) e)) k

        go : (o : Option Slot) → option_and_then slot_in (resolution_of rs (slot_of d.name)) ≡ o → parent_in (option_map_or Fixed o d.slot) ≡ Some p → f.is_dir ≡ true
        go None e q = dirs.parents n p f (ap (option_and_then (λ (d : Decision). parent_in d.slot)) h ∙ q) k
        go (Some s) e q = at s e q

    pub parents_are_dirs : ParentsAreDirs (overridden rs m).nodes
    parents_are_dirs = record {
      root = λ n e h s.
          let w = was m rs n e h in
          sym (ap (λ (x : Decision). x.is_dir) w.new) ∙ root_stays n w.old w.there (ap (λ (x : Decision). x.slot) w.new ∙ s);
      parents = λ n p f up h.
          let v = was m rs p f h in
          sym (ap (λ (x : Decision). x.is_dir) v.new) ∙ above n p v.old up v.there;
    }
      where
        above : (n p : NodeName) (f : Decision) → parent_of (overridden rs m).nodes n ≡ Some p → decision_of (candidates m) p ≡ Some f → f.is_dir ≡ true
        above n p f up k = go (decision_of (overridden rs m).nodes n) refl up
          where
            go : (o : Option Decision) → decision_of (overridden rs m).nodes n ≡ o → option_and_then (λ (d : Decision). parent_in d.slot) o ≡ Some p → f.is_dir ≡ true
            go None g q = absurd cc
            go (Some e) g q =
                let w = was m rs n e g in
                parent_stays n p w.old f w.there (ap (λ (x : Decision). parent_in x.slot) w.new ∙ q) k
