-- What holds of a sane tree, and of no tree at all.
use Rattle.std.specs.Prelude.{option_and_then, IsTrue}
use Rattle.std.proofs.Common.{◌≡◌, ℕ, List, [], ◌∷◌, Option, Some, None, refl, sym, ◌∙◌, ap, subst}
use Rattle.mtn_base.specs.Names.{same_name}
use Rattle.mtn_base.specs.declared.name.NodeName.{NodeName}
use Rattle.mtn_roster.specs.declared.entry.Entry.{Entry}
use Rattle.mtn_roster.specs.declared.entry.Slot.{Slot}
use Rattle.mtn_roster.specs.declared.entry.Slot.TheVariants.{Root, Below}
use Rattle.mtn_roster.specs.Tree.{Tree, entry_of, at_slot, child_of, node_up, same_slot, is_dir, mtn, EndsAtRoot}
use Rattle.mtn_base.proofs.Finding.{Split, found, finds_some}
use Rattle.mtn_base.proofs.Tests.{same_name-is}
use Rattle.mtn_roster.proofs.Slots.{same_slot-is, same_slot-self}

pub chained : {A B : Type 0} (f : A → Option B) (o : Option A) (y : B) → option_and_then f o ≡ Some y → (x : A) × (o ≡ Some x) × (f x ≡ Some y)
chained f None y h = absurd cc
chained f (Some x) y h = (x, refl, h)

pub same_some : {A : Type 0} {a b : A} {o : Option A} → o ≡ Some a → o ≡ Some b → a ≡ b
same_some p q = cc

pub record IsForest (t : Tree) : Type 0 where
  pub distinct : (e : Entry) → Split t e → entry_of t e.name ≡ Some e
  pub parents : (n parent : NodeName) (e : Entry) (name : List ℕ) → entry_of t n ≡ Some e → e.slot ≡ Below parent name →
      (d : Entry) × (entry_of t parent ≡ Some d) × IsTrue (is_dir d)
  pub slots : (n m : NodeName) (e f : Entry) → entry_of t n ≡ Some e → entry_of t m ≡ Some f → e.slot ≡ f.slot → n ≡ m
  pub rooted : (n : NodeName) (e : Entry) → entry_of t n ≡ Some e → EndsAtRoot (entry_of t) e.slot
  pub root_dir : (n : NodeName) (e : Entry) → entry_of t n ≡ Some e → e.slot ≡ Root → IsTrue (is_dir e)
  pub not_mtn : (n m : NodeName) (e r : Entry) → entry_of t n ≡ Some e → entry_of t m ≡ Some r → r.slot ≡ Root → e.slot ≡ Below m mtn → ⊥

pub name_of : (t : Tree) (n : NodeName) (e : Entry) → entry_of t n ≡ Some e → e.name ≡ n
name_of t n e h = same_name-is e.name n (found (λ e. same_name e.name n) t e h).passes

pub split_of : (t : Tree) (n : NodeName) (e : Entry) → entry_of t n ≡ Some e → Split t e
split_of t n e h = (found (λ e. same_name e.name n) t e h).at

pub own : (t : Tree) (n : NodeName) (e : Entry) → entry_of t n ≡ Some e → entry_of t e.name ≡ Some e
own t n e h = subst (λ m. entry_of t m ≡ Some e) (sym (name_of t n e h)) h

module _ (t : Tree) (o : IsForest t) where
  pub at_slot-is : (s : Slot) (e : Entry) → at_slot t s ≡ Some e → (e.slot ≡ s) × (entry_of t e.name ≡ Some e)
  at_slot-is s e h =
      let f = found (λ e. same_slot e.slot s) t e h in
      (same_slot-is e.slot s f.passes, o.distinct e f.at)

  pub at_slot-of : (n : NodeName) (e : Entry) → entry_of t n ≡ Some e → at_slot t e.slot ≡ Some e
  at_slot-of n e h =
      let y = finds_some (λ f. same_slot f.slot e.slot) t e (split_of t n e h) (same_slot-self e.slot) in
      let i = at_slot-is e.slot y.0 y.1 in
      let k : n ≡ y.0.name = o.slots n y.0.name e y.0 h i.1 (sym i.0) in
      let g : e ≡ y.0 = same_some h (subst (λ m. entry_of t m ≡ Some y.0) (sym k) i.1) in
      y.1 ∙ ap Some (sym g)

  -- a node at a path below hangs below the node at the path above
  pub node_below : (name : List ℕ) (up : List (List ℕ)) (e : Entry) → node_up t (name ∷ up) ≡ Some e →
      (d : Entry) × (node_up t up ≡ Some d) × (e.slot ≡ Below d.name name)
  node_below name up e h =
      let c = chained (child_of t name) (node_up t up) e h in
      (c.0, c.1, (at_slot-is (Below c.0.name name) e c.2).0)

  pub node_there : (up : List (List ℕ)) (e : Entry) → node_up t up ≡ Some e → entry_of t e.name ≡ Some e
  node_there [] e h = (at_slot-is Root e h).1
  node_there (name ∷ up) e h = let c = chained (child_of t name) (node_up t up) e h in (at_slot-is (Below c.0.name name) e c.2).1

  -- a node has one path
  pub one_path : (up vp : List (List ℕ)) (e : Entry) → node_up t up ≡ Some e → node_up t vp ≡ Some e → up ≡ vp
  one_path [] [] e h k = refl
  one_path [] (name ∷ vp) e h k = let a = (at_slot-is Root e h).0 in let b = (node_below name vp e k).2 in absurd cc
  one_path (name ∷ up) [] e h k = let a = (at_slot-is Root e k).0 in let b = (node_below name up e h).2 in absurd cc
  one_path (name ∷ up) (same ∷ vp) e h k =
      let a = node_below name up e h in
      let b = node_below same vp e k in
      let g : Below a.0.name name ≡ Below b.0.name same = sym a.2 ∙ b.2 in
      let names : name ≡ same = cc in
      let parents : a.0.name ≡ b.0.name = cc in
      let d : a.0 ≡ b.0 = same_some (node_there up a.0 a.1) (subst (λ m. entry_of t m ≡ Some b.0) (sym parents) (node_there vp b.0 b.1)) in
      λ i. names i ∷ one_path up vp a.0 a.1 (b.1 ∙ ap Some (sym d)) i
