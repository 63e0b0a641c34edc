-- One edit of a tree: what stands where, and what it makes of each node.
use Rattle.std.specs.Prelude.{find, option_and_then, option_map, reverse}
use Rattle.std.proofs.Common.{◌≡◌, ◌≢◌, ℕ, Bool, true, false, cond, List, [], ◌∷◌, Option, Some, None, refl, sym, ◌∙◌, ap, subst, inr}
use Rattle.mtn_base.specs.Lists.{is_some_with}
use Rattle.mtn_base.specs.Names.{same_name}
use Rattle.mtn_base.specs.declared.id.Id.{Id}
use Rattle.mtn_base.specs.declared.name.NodeName.{NodeName}
use Rattle.mtn_base.proofs.Tests.{same_name-is, same_name-self}
use Rattle.mtn_changes.specs.declared.change.Change.{Change}
use Rattle.mtn_changeset_laws.specs.Changes.{Occupant, aims_at, first_fault, if_kept, is_at, is_kept, kept_child, occupant_by, occupant_name, occupant_up, tree_after}
use Rattle.mtn_changeset_laws.specs.Changes.Occupant.{Old}
use Rattle.mtn_changeset_laws.specs.Laws.{NoneBornIn, RenamesDiffer}
use Rattle.mtn_changeset_laws.proofs.After.{entry_after, node_of}
use Rattle.mtn_changeset_laws.proofs.AfterSane.{after_at_paths, after_is_sane, once_of}
use Rattle.mtn_changeset_laws.proofs.Passing.{passes}
use Rattle.mtn_roster.specs.Tree.{IsSane, Tree, child_of, entry_of, is_dir, node_at, node_up, root_of}
use Rattle.mtn_roster.specs.declared.entry.Entry.{Entry}
use Rattle.mtn_roster.specs.declared.entry.Slot.TheVariants.{Below}
use Rattle.mtn_roster.proofs.Forest.{IsForest, at_slot-is, node_there, one_path, same_some}
use Rattle.mtn_roster.proofs.Ordered.{forest_of}

module _ (t : Tree) (o : IsForest t) where
  -- nothing hangs below a file
  no_child : (name : List ℕ) (up : List (List ℕ)) (d : Entry) → node_up t up ≡ Some d → is_dir d ≡ false → child_of t name d ≡ None
  no_child name up d at file = by (child_of t name d) refl
    where
      by : (e : Option Entry) → child_of t name d ≡ e → e ≡ None
      by None h = refl
      by (Some e) h =
          let is = at_slot-is t o (Below d.name name) e h in
          let above = o.parents e.name d.name e name is.1 is.0 in
          let same : above.0 ≡ d = same_some above.1 (node_there t o up d at) in
          absurd (let both : true ≡ false = sym above.2 ∙ ap is_dir same ∙ file in cc)

  -- two nodes of which none stands where the other does have different names
  pub apart : (up vp : List (List ℕ)) (e g : Entry) → node_up t up ≡ Some e → node_up t vp ≡ Some g → up ≢ vp → same_name e.name g.name ≡ false
  apart up vp e g at_e at_g differ = by (same_name e.name g.name) refl
    where
      by : (b : Bool) → same_name e.name g.name ≡ b → b ≡ false
      by false h = refl
      by true h =
          let one : g ≡ e = same_some (node_there t o vp g at_g) (subst (λ (n : NodeName). entry_of t n ≡ Some e) (same_name-is e.name g.name h) (node_there t o up e at_e)) in
          absurd (differ (one_path t o up vp e at_e (at_g ∙ ap (λ (x : Entry). Some x) one)))

  -- changes that put nothing anywhere, and keep all
  module _ (all : List Change) (aims : (q : List (List ℕ)) → find (aims_at q) all ≡ None) (keeps : (e : Entry) → is_kept t all e ≡ true) where
    pub then_kept : (e : Option Entry) → option_and_then (if_kept t all) e ≡ option_map Old e
    then_kept None = refl
    then_kept (Some e) = ap (λ b. cond {A = Option Occupant} b (Some (Old e)) None) (keeps e)

    below : (name : List ℕ) (up : List (List ℕ)) (d : Option Entry) → node_up t up ≡ d → option_and_then (kept_child t all name) (option_map Old d) ≡ option_map Old (option_and_then (child_of t name) d)
    below name up None at = refl
    below name up (Some d) at = by (is_dir d) refl
      where
        by : (b : Bool) → is_dir d ≡ b → cond {A = Option Occupant} b (option_and_then (if_kept t all) (child_of t name d)) None ≡ option_map Old (child_of t name d)
        by true dir = then_kept (child_of t name d)
        by false file = sym (ap (option_map Old) (no_child name up d at file))

    pub occupies : (up : List (List ℕ)) → occupant_up t all up ≡ option_map Old (node_up t up)
    occupies [] = ap (occupant_by t (option_and_then (if_kept t all) (root_of t))) (aims []) ∙ then_kept (root_of t)
    occupies (name ∷ up) =
        ap (occupant_by t (option_and_then (kept_child t all name) (occupant_up t all up))) (aims (reverse (name ∷ up)))
        ∙ ap (option_and_then (kept_child t all name)) (occupies up) ∙ below name up (node_up t up) refl

    module _ (x : Id) where
      pub here : (p : List (List ℕ)) (e : Entry) → node_at t p ≡ Some e → is_at t all x e.name p ≡ true
      here p e at = ap (is_some_with (λ (q : Occupant). same_name (occupant_name x q) e.name)) (occupies (reverse p) ∙ ap (option_map Old) at) ∙ same_name-self e.name

      pub elsewhere : (p q : List (List ℕ)) (e g : Entry) → node_at t p ≡ Some e → node_at t q ≡ Some g → reverse p ≢ reverse q → is_at t all x g.name p ≡ false
      elsewhere p q e g at_e at_g differ = ap (is_some_with (λ (n : Occupant). same_name (occupant_name x n) g.name)) (occupies (reverse p) ∙ ap (option_map Old) at_e) ∙ apart (reverse p) (reverse q) e g at_e at_g differ

module _ (t : Tree) (sane : IsSane t) (all : List Change) (aims : (q : List (List ℕ)) → find (aims_at q) all ≡ None) (keeps : (e : Entry) → is_kept t all e ≡ true)
    (renames : RenamesDiffer all) (fine : first_fault t all ≡ None) (x : Id) (unborn : NoneBornIn t x) where
  abbrev new : Tree
  new = tree_after t all x

  pub new_sane : IsSane new
  new_sane = after_is_sane t all x (inr sane) renames unborn fine

  -- what is made of a node
  abbrev pub after : Entry → Entry
  after e = entry_after t all x (forest_of t sane) (once_of all renames) (passes t all fine) unborn (Old e)

  pub carried_on : (p : List (List ℕ)) (e : Entry) → node_at t p ≡ Some e → node_at new p ≡ Some (after e)
  carried_on p e at =
      node_of t all x (forest_of t sane) (once_of all renames) (passes t all fine) unborn (forest_of new new_sane) (reverse p) (Old e)
      (occupies t (forest_of t sane) all aims keeps (reverse p) ∙ ap (option_map Old) at)

  pub came_from : (p : List (List ℕ)) (g : Entry) → node_at new p ≡ Some g → (e : Entry) × (node_at t p ≡ Some e)
  came_from p g at = by (node_at t p) refl
    where
      by : (e : Option Entry) → node_at t p ≡ e → (e' : Entry) × (node_at t p ≡ Some e')
      by (Some e) is = (e, is)
      by None is = absurd (let both = sym (ap (option_map (λ (n : Entry). n.name)) at) ∙ after_at_paths t all x (inr sane) renames unborn fine p
          ∙ ap (option_map (occupant_name x)) (occupies t (forest_of t sane) all aims keeps (reverse p) ∙ ap (option_map Old) is) in cc)
