-- A changeset with no fault makes a sane tree.
use Rattle.std.specs.Prelude.{Contains, option_map, reverse}
use Rattle.std.specs.List.{list_all}
use Rattle.std.specs.Cmp.{second_so}
use Rattle.std.proofs.Common.{◌≡◌, ℕ, suc, true, List, [], ◌∷◌, ◌++◌, Option, Some, None, refl, ◌∙◌, sym, ap, subst, arith, ⊎_elim}
use Rattle.mtn_base.specs.declared.id.Id.{Id}
use Rattle.mtn_base.specs.declared.name.NodeName.{NodeName}
use Rattle.mtn_changes.specs.declared.change.Change.{Change}
use Rattle.mtn_roster.specs.Tree.{Tree, node_at, IsSane}
use Rattle.mtn_roster.specs.declared.entry.Entry.{Entry}
use Rattle.mtn_changeset_laws.specs.Changes.{Occupant, first_fault, tree_after, occupant, occupant_name}
use Rattle.mtn_changeset_laws.specs.Changes.Occupant.{Old, Added}
use Rattle.mtn_changeset_laws.specs.Laws.{IsOldTree, RenamesDiffer, NoneBornIn, AreNamedByPath}
use Rattle.mtn_base.proofs.Finding.{Split}
use Rattle.mtn_changeset_laws.proofs.Passing.{passes}
use Rattle.mtn_roster.proofs.Forest.{IsForest}
use Rattle.mtn_changeset_laws.proofs.After.{after_sane, at_paths}
use Rattle.mtn_roster.proofs.Ordered.{forest_of, no_forest}
use Rattle.mtn_changeset_laws.proofs.Keeping.{has_rising_keys, ordered_after}
use Rattle.mtn_changeset_laws.proofs.Occupying.{RenamesOnce, IsPresent, standing, added_where}
use Rattle.mtn_changeset_laws.proofs.Occupying.IsPresent.{old_one}

pub contains_of : {X : Type 0} (xs : List X) (x : X) → Split xs x → Contains xs x
contains_of {X} xs x s = subst (λ l. Contains l x) (sym s.is) (go s.before)
  where
    go : (before : List X) → Contains (before ++ x ∷ s.rest) x
    go [] = (0, omega arith, refl)
    go (b ∷ before) = let t = go before in (suc t.0, omega (arith, t.1), t.2)

pub once_of : (all : List Change) → RenamesDiffer all → RenamesOnce all
once_of all h p q r s t = h p q r (contains_of all _ s) (contains_of all _ t)

pub forest_before : (old : Tree) → IsOldTree old → IsForest old
forest_before old before = ⊎_elim (λ e. subst IsForest (sym e) no_forest) (forest_of old) before

keys_before : (old : Tree) → IsOldTree old → list_all has_rising_keys old ≡ true
keys_before old before = ⊎_elim (λ e. ap (list_all has_rising_keys) e) (λ s. second_so _ _ s.ordered) before

pub after_is_sane : (old : Tree) (all : List Change) (new : Id) → IsOldTree old → RenamesDiffer all → NoneBornIn old new → first_fault old all ≡ None → IsSane (tree_after old all new)
after_is_sane old all new before once unborn fine = record {
  ordered = ordered_after old all new (keys_before old before);
  sane = after_sane old all new (forest_before old before) (once_of all once) (passes old all fine) unborn;
}

pub after_at_paths : (old : Tree) (all : List Change) (new : Id) → IsOldTree old → RenamesDiffer all → NoneBornIn old new → first_fault old all ≡ None → (p : List (List ℕ)) →
    option_map (λ (e : Entry). e.name) (node_at (tree_after old all new) p) ≡ option_map (occupant_name new) (occupant old all p)
after_at_paths old all new before once unborn fine p =
    at_paths old all new (forest_before old before) (once_of all once) (passes old all fine) unborn (forest_of (tree_after old all new) (after_is_sane old all new before once unborn fine)) p

pub after_names : (old : Tree) (all : List Change) (new : Id) → IsOldTree old → RenamesDiffer all → NoneBornIn old new → first_fault old all ≡ None → AreNamedByPath (tree_after old all new) new
after_names old all new before once unborn fine p e h born =
    let forest = forest_of (tree_after old all new) (after_is_sane old all new before once unborn fine) in
    at (occupant old all p) refl (sym (after_at_paths old all new before once unborn fine p) ∙ ap (option_map (λ (e : Entry). e.name)) h)
  where
    at : (x : Option Occupant) → occupant old all p ≡ x → option_map (occupant_name new) x ≡ Some e.name → e.name.path ≡ p
    at None k g = absurd cc
    at (Some (Added q body)) k g =
        let name : record { birth = new; path = q } ≡ e.name = cc in
        ap (λ (n : NodeName). n.path) (sym name) ∙ added_where old all p q body k
    at (Some (Old f)) k g =
        let name : f.name ≡ e.name = cc in
        let s = standing old (forest_before old before) all new (once_of all once) (passes old all fine) (reverse p) (Old f) k in
        absurd (old_here f s.present (ap (λ (n : NodeName). n.birth) name ∙ born))
      where
        old_here : (f : Entry) → IsPresent old (forest_before old before) all new (Old f) → f.name.birth ≡ new → ⊥
        old_here f (old_one there stays) b = unborn f.name f there b
