-- What a renaming keeps of a history.
use Rattle.std.specs.Prelude.{slice_get, option_map}
use Rattle.std.proofs.Common.{◌≡◌, ◌↔◌, ℕ, List, map, Option, Some, None, refl, sym, ap, ◌∙◌, subst}
use Rattle.mtn_base.specs.declared.id.Id.{Id}
use Rattle.mtn_ancestry.specs.Ancestors.{IsAncestor, IsUncommon}
use Rattle.mtn_history_laws.specs.History.{Revision, parents_at, revision_parents, revision_tree, tree_at, IsPlaceOf}
use Rattle.mtn_history_laws.specs.Scalars.{IsEvent, IsMark, Scalar, Value, value_at, value_in, WinsAt}
use Rattle.mtn_renaming.specs.Renaming.{moved, IsRenaming}
use Rattle.mtn_renaming.proofs.Elements.{map_back}
use Rattle.mtn_renaming.proofs.Graphs.{Renames, ancestor_to, ancestor_from, marked_to, marked_from, mark_to, mark_from, wins_to, wins_from}

parents_moved : (to : ℕ → ℕ) (o : Option Revision) → revision_parents (option_map (moved to) o) ≡ map to (revision_parents o)
parents_moved to None = refl
parents_moved to (Some v) = refl

tree_moved : (to : ℕ → ℕ) (o : Option Revision) → revision_tree (option_map (moved to) o) ≡ revision_tree o
tree_moved to None = refl
tree_moved to (Some v) = refl

moved_back : (to back : ℕ → ℕ) → ((r : ℕ) → back (to r) ≡ r) → (o : Option Revision) → option_map (moved back) (option_map (moved to) o) ≡ o
moved_back to back there None = refl
moved_back to back there (Some v) = let same = map_back to back there v.parents in λ i. Some (record v { parents = same i })

module _ (h g : List Revision) (to back : ℕ → ℕ) (is : IsRenaming h g to back) where
  revision_back : (r : ℕ) → slice_get h (back r) ≡ option_map (moved back) (slice_get g r)
  revision_back r = sym (ap (option_map (moved back)) (ap (slice_get g) (sym (is.here r)) ∙ is.revision (back r)) ∙ moved_back to back is.there (slice_get h (back r)))

  pub place_back : (id : Id) (q : ℕ) → IsPlaceOf g id q → IsPlaceOf h id (back q)
  place_back id q at = (moved back at.0, revision_back q ∙ ap (option_map (moved back)) at.1, at.2)

  pub turned : IsRenaming g h back to
  turned = record {
    revision = revision_back;
    there = is.here;
    here = is.there;
    once = λ id b c p q. sym (is.here b) ∙ ap to (is.once id (back b) (back c) (place_back id b p) (place_back id c q)) ∙ is.here c;
  }

  pub same_parents : (r : ℕ) → parents_at g (to r) ≡ map to (parents_at h r)
  same_parents r = ap revision_parents (is.revision r) ∙ parents_moved to (slice_get h r)

  pub same_tree : (r : ℕ) → tree_at g (to r) ≡ tree_at h r
  same_tree r = ap revision_tree (is.revision r) ∙ tree_moved to (slice_get h r)

  pub renames : (s : Scalar) → Renames Value (parents_at h) (parents_at g) (value_at h s) (value_at g s) to back
  renames s = record {
    parents = same_parents;
    value = λ r. ap (λ t. value_in t s) (same_tree r);
    there = is.there;
    here = is.here;
  }

  -- the graph alone
  abbrev nothing : ℕ → Option ℕ
  nothing r = None

  graph : Renames ℕ (parents_at h) (parents_at g) nothing nothing to back
  graph = record {
    parents = same_parents;
    value = λ r. refl;
    there = is.there;
    here = is.here;
  }

  pub place_to : (id : Id) (r : ℕ) → IsPlaceOf h id r → IsPlaceOf g id (to r)
  place_to id r at = (moved to at.0, is.revision r ∙ ap (option_map (moved to)) at.1, at.2)

  pub above_to : (x r : ℕ) → IsAncestor (parents_at h) x r → IsAncestor (parents_at g) (to x) (to r)
  above_to x r a = ancestor_to graph a

  pub above_from : (x r : ℕ) → IsAncestor (parents_at g) (to x) (to r) → IsAncestor (parents_at h) x r
  above_from x r a = ancestor_from graph a

module _ (h g : List Revision) (to back : ℕ → ℕ) (is : IsRenaming h g to back) where
  pub place_from : (id : Id) (r : ℕ) → IsPlaceOf g id (to r) → IsPlaceOf h id r
  place_from id r at = subst (IsPlaceOf h id) (is.there r) (place_to g h back to (turned h g to back is) id (to r) at)

  pub keeps_places : (id : Id) (r : ℕ) → IsPlaceOf h id r ↔ IsPlaceOf g id (to r)
  keeps_places id r = (place_to h g to back is id r, place_from id r)

  pub keeps_ancestors : (x r : ℕ) → IsAncestor (parents_at h) x r ↔ IsAncestor (parents_at g) (to x) (to r)
  keeps_ancestors x r = (above_to h g to back is x r, above_from h g to back is x r)

  pub keeps_uncommon : (a b x : ℕ) → IsUncommon (parents_at h) a b x ↔ IsUncommon (parents_at g) (to a) (to b) (to x)
  keeps_uncommon a b x = (
    λ u. ((keeps_ancestors x a).0 u.0, λ c. u.1 ((keeps_ancestors x b).1 c)),
    λ u. ((keeps_ancestors x a).1 u.0, λ c. u.1 ((keeps_ancestors x b).0 c)),
  )

  pub keeps_events : (s : Scalar) (r : ℕ) → IsEvent h s r ↔ IsEvent g s (to r)
  keeps_events s r = (marked_to (renames h g to back is s), marked_from (renames h g to back is s))

  pub keeps_marks : (s : Scalar) (r x : ℕ) → IsMark h s r x ↔ IsMark g s (to r) (to x)
  keeps_marks s r x = (mark_to (renames h g to back is s), mark_from (renames h g to back is s))

  pub keeps_wins : (s : Scalar) (a b : ℕ) → WinsAt h s a b ↔ WinsAt g s (to a) (to b)
  keeps_wins s a b = (wins_to (renames h g to back is s), wins_from (renames h g to back is s))
