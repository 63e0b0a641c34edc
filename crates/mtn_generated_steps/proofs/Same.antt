-- A revision that adds no node makes the same tree under every id.
use Rattle.std.specs.Prelude.{filter_map, find, option_map, reverse}
use Rattle.std.specs.Option.{option_map_or}
use Rattle.std.proofs.Common.{◌≡◌, ◌≢◌, ℕ, Bool, true, false, cond, List, [], ◌∷◌, ◌++◌, Option, Some, None, refl, sym, ◌∙◌, ap}
use Rattle.std.proofs.Math.Path.{fun_ext}
use Rattle.mtn_base.specs.Lists.{is_some_with}
use Rattle.mtn_base.specs.Names.{same_name}
use Rattle.mtn_base.specs.declared.id.Id.{Id}
use Rattle.mtn_base.specs.declared.name.NodeName.{NodeName}
use Rattle.mtn_changes.specs.declared.change.Change.{Change}
use Rattle.mtn_changes.specs.declared.change.Change.TheVariants.{Patch, Rename, Set}
use Rattle.mtn_changeset_laws.specs.Changes.{Occupant, aims_at, is_at, is_kept, occupant_name, slot_by, slot_up, stands_at, tree_after}
use Rattle.mtn_changeset_laws.specs.Changes.Occupant.{Old}
use Rattle.mtn_generated.specs.Numbered.{directory_at}
use Rattle.mtn_generated_trees.specs.Formed.{IsFormed}
use Rattle.mtn_roster.specs.Tree.{Tree, in_order, mtn, node_at, with_attr, IsSane}
use Rattle.mtn_roster.specs.declared.entry.Body.TheVariants.{File}
use Rattle.mtn_roster.specs.declared.entry.Entry.{Entry}
use Rattle.mtn_roster.specs.declared.entry.Slot.TheVariants.{Below, Root}
use Rattle.mtn_roster.proofs.Forest.{IsForest}
use Rattle.mtn_generated_steps.proofs.Edits.{occupies}
use Rattle.mtn_generated_steps.proofs.Renaming.{at_root}

module _ (x y : Id) where
  old_name : (n : NodeName) (e : Option Entry) → is_some_with (λ (q : Occupant). same_name (occupant_name x q) n) (option_map Old e) ≡ is_some_with (λ (q : Occupant). same_name (occupant_name y q) n) (option_map Old e)
  old_name n None = refl
  old_name n (Some e) = refl

  module _ (t : Tree) (o : IsForest t) (all : List Change) (aims : (q : List (List ℕ)) → find (aims_at q) all ≡ None) (keeps : (e : Entry) → is_kept t all e ≡ true) where
    at_same : (n : NodeName) (p : List (List ℕ)) → is_at t all x n p ≡ is_at t all y n p
    at_same n p =
        ap (is_some_with (λ (q : Occupant). same_name (occupant_name x q) n)) (occupies t o all aims keeps (reverse p)) ∙ old_name n (node_at t p)
        ∙ sym (ap (is_some_with (λ (q : Occupant). same_name (occupant_name y q) n)) (occupies t o all aims keeps (reverse p)))

  pub patch_same : (t : Tree) → IsForest t → (p : List (List ℕ)) (from to : Id) → tree_after t (Patch p from to ∷ []) x ≡ tree_after t (Patch p from to ∷ []) y
  patch_same t o p from to = ap (λ (g : Entry → Option Entry). in_order (filter_map g t ++ []))
      (fun_ext (λ (e : Entry). ap (λ b. Some (cond b (record e { body = File to }) e)) (at_same t o (Patch p from to ∷ []) (λ q. refl) (λ n. refl) e.name p)))

  pub set_same : (t : Tree) → IsForest t → (p : List (List ℕ)) (key value : List ℕ) → tree_after t (Set p key value ∷ []) x ≡ tree_after t (Set p key value ∷ []) y
  set_same t o p key value = ap (λ (g : Entry → Option Entry). in_order (filter_map g t ++ []))
      (fun_ext (λ (e : Entry). ap (λ b. Some (cond b (record e { attrs = with_attr (record { key = key; value = Some value }) e.attrs }) e)) (at_same t o (Set p key value ∷ []) (λ q. refl) (λ n. refl) e.name p)))

  module _ (f : List ℕ → List ℕ) (i m : ℕ) (t : Tree) (sane : IsSane t) (form : IsFormed f i m t) (b : List ℕ) (other : directory_at i ≢ b) (free : b ≢ mtn) where
    abbrev moving : List Change
    moving = Rename (directory_at i ∷ []) (b ∷ []) ∷ []

    slots : slot_up t moving x (b ∷ []) ≡ slot_up t moving y (b ∷ [])
    slots =
        let root = at_root f i m t sane form b other free in
        ap (λ u. option_map_or (λ d. Below (occupant_name x d) b) u Root) root ∙ sym (ap (λ u. option_map_or (λ d. Below (occupant_name y d) b) u Root) root)

    slots_by : (e : Entry) (s : Bool) → slot_by t moving x e.slot (cond s (Some (Rename (directory_at i ∷ []) (b ∷ []))) None) ≡ slot_by t moving y e.slot (cond s (Some (Rename (directory_at i ∷ []) (b ∷ []))) None)
    slots_by e true = slots
    slots_by e false = refl

    pub rename_same : tree_after t moving x ≡ tree_after t moving y
    rename_same = ap (λ (g : Entry → Option Entry). in_order (filter_map g t ++ [])) (fun_ext (λ (e : Entry). ap (λ s. Some (record e { slot = s })) (slots_by e (stands_at t e (directory_at i ∷ [])))))
