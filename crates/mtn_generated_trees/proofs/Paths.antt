-- Trees with the same slots have the same paths.
use Rattle.std.specs.Prelude.{option_and_then}
use Rattle.std.proofs.Common.{◌≡◌, List, [], ◌∷◌, ℕ, Option, Some, None, refl, sym, ◌∙◌, ap}
use Rattle.mtn_base.specs.declared.name.NodeName.{NodeName}
use Rattle.mtn_history_laws.specs.Scalars.{value_in, value_of}
use Rattle.mtn_history_laws.specs.Scalars.Scalar.{SlotOf}
use Rattle.mtn_history_laws.specs.Scalars.Value.{SlotValue}
use Rattle.mtn_roster.specs.Tree.{Tree, at_slot, child_of, entry_of, node_up}
use Rattle.mtn_roster.specs.declared.entry.Entry.{Entry}
use Rattle.mtn_roster.specs.declared.entry.Slot.TheVariants.{Below, Root}
use Rattle.mtn_roster.proofs.Forest.{IsForest, at_slot-is, at_slot-of, name_of, node_below, node_there}

module _ (s t : Tree) (os : IsForest s) (ot : IsForest t) (same : (n : NodeName) → value_in t (SlotOf n) ≡ value_in s (SlotOf n)) where
  -- each node of the one is in the other, in its slot
  pub twin : (n : NodeName) (e : Entry) → entry_of s n ≡ Some e → (g : Entry) × (entry_of t n ≡ Some g) × (g.slot ≡ e.slot)
  twin n e k = by (entry_of t n) refl (same n ∙ ap (option_and_then (value_of (SlotOf n))) k)
    where
      by : (o : Option Entry) → entry_of t n ≡ o → option_and_then (value_of (SlotOf n)) o ≡ Some (SlotValue e.slot) → (g : Entry) × (entry_of t n ≡ Some g) × (g.slot ≡ e.slot)
      by None f z = absurd cc
      by (Some g) f z = (g, f, (let y : g.slot ≡ e.slot = cc in y))

  -- and at its path
  pub carried : (up : List (List ℕ)) (e : Entry) → node_up s up ≡ Some e → (g : Entry) × (node_up t up ≡ Some g) × (entry_of t e.name ≡ Some g) × (g.name ≡ e.name)
  carried [] e h =
      let is = at_slot-is s os Root e h in
      let w = twin e.name e is.1 in
      let root : at_slot t Root ≡ Some w.0 = ap (at_slot t) (sym (w.2 ∙ is.0)) ∙ at_slot-of t ot e.name w.0 w.1 in
      (w.0, root, w.1, name_of t e.name w.0 w.1)
  carried (name ∷ up) e h =
      let b = node_below s os name up e h in
      let d = carried up b.0 b.1 in
      let w = twin e.name e (node_there s os (name ∷ up) e h) in
      let slot : w.0.slot ≡ Below d.0.name name = w.2 ∙ b.2 ∙ ap (λ n. Below n name) (sym d.3) in
      let there : node_up t (name ∷ up) ≡ Some w.0 = ap (option_and_then (child_of t name)) d.1 ∙ ap (at_slot t) (sym slot) ∙ at_slot-of t ot e.name w.0 w.1 in
      (w.0, there, w.1, name_of t e.name w.0 w.1)
