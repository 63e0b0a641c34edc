-- What a text is refused for, over two histories that are one but for their order.
use Rattle.std.specs.Prelude.{is_none, nat_le, option_and_then, option_map, slice_get, ◌||◌}
use Rattle.std.specs.List.{list_any}
use Rattle.std.specs.Option.{option_map_or}
use Rattle.std.proofs.Common.{◌≡◌, ◌≤◌, ℕ, zero, suc, false, List, [], ◌∷◌, length, Option, Some, None, refl, sym, ap, ◌∙◌, le_antisymm, if◌then◌else◌}
use Rattle.mtn_base.specs.Names.{same_id}
use Rattle.mtn_base.specs.declared.id.Id.{Id}
use Rattle.mtn_base.specs.declared.refusal.Cause.TheVariants.{LogFull}
use Rattle.mtn_changes.specs.declared.change.Edge.{Edge}
use Rattle.mtn_changes.specs.declared.change.Revision.{Revision as Spelled}
use Rattle.mtn_history_laws.specs.History.{Revision, parents_at, tree_at}
use Rattle.mtn_replay.specs.Making.{has_id, is_above, log_full, place_of, reaches, refusal_of}
use Rattle.mtn_replay.proofs.Places.{inside, no_place, place_has, within}
use Rattle.mtn_model.specs.Table.{Table}
use Rattle.mtn_renaming.specs.Parents.{AreKnownAlike, IsKnownAlike}
use Rattle.mtn_renaming.specs.Renaming.{moved, IsRenaming}
use Rattle.mtn_renaming.proofs.Counting.{no_more}
use Rattle.mtn_renaming.proofs.Elements.{list_any_map}
use Rattle.mtn_renaming.proofs.Judging.{judged_alike}
use Rattle.mtn_renaming.proofs.Moving.{IsAlike}
use Rattle.mtn_renaming.proofs.Renamed.{place_back, place_to, same_parents, same_tree, turned}
use Rattle.mtn_renaming.proofs.Spelling.{place_is}

no_longer : (h g : List Revision) (to back : ℕ → ℕ) → IsRenaming h g to back → length h ≤ length g
no_longer h g to back is = no_more (length h) (length g) to
    (λ k lt. let v = within h k lt in inside g (to k) (moved to v.0) (is.revision k ∙ ap (option_map (moved to)) v.1))
    (λ j k lj lk e. sym (is.there j) ∙ ap back e ∙ is.there k)

pub same_length : (h g : List Revision) (to back : ℕ → ℕ) → IsRenaming h g to back → length g ≡ length h
same_length h g to back is = le_antisymm (no_longer g h back to (turned h g to back is)) (no_longer h g to back is)

has_moved : (to : ℕ → ℕ) (id : Id) (o : Option Revision) → option_map_or (λ (v : Revision). same_id v.id id) (option_map (moved to) o) false ≡ option_map_or (λ (v : Revision). same_id v.id id) o false
has_moved to id None = refl
has_moved to id (Some v) = refl

none_moved : (to : ℕ → ℕ) (o : Option ℕ) → is_none (option_map to o) ≡ is_none o
none_moved to None = refl
none_moved to (Some r) = refl

module _ (h g : List Revision) (to back : ℕ → ℕ) (is : IsRenaming h g to back) where
  tree_there : (o : Option ℕ) → option_map_or (tree_at g) (option_map to o) [] ≡ option_map_or (tree_at h) o []
  tree_there None = refl
  tree_there (Some r) = same_tree h g to back is r

  reaches_same : (steps : ℕ) (id : Id) (r : ℕ) → reaches steps g id (to r) ≡ reaches steps h id r
  reaches_same zero id r = ap (λ o. option_map_or (λ (v : Revision). same_id v.id id) o false) (is.revision r) ∙ has_moved to id (slice_get h r)
  reaches_same (suc steps) id r =
      let own : has_id g id (to r) ≡ has_id h id r = ap (λ o. option_map_or (λ (v : Revision). same_id v.id id) o false) (is.revision r) ∙ has_moved to id (slice_get h r) in
      let up = ap (list_any (reaches steps g id)) (same_parents h g to back is r) ∙ list_any_map to (reaches steps g id) (reaches steps h id) (λ p. reaches_same steps id p) (parents_at h r) in
      λ i. own i || up i

  reached_there : (id : Id) (o : Option ℕ) → option_map_or (reaches (length g) g id) (option_map to o) false ≡ option_map_or (reaches (length h) h id) o false
  reached_there id None = refl
  reached_there id (Some r) = ap (λ n. reaches n g id (to r)) (same_length h g to back is) ∙ reaches_same (length h) id r

  full_same : log_full g ≡ log_full h
  full_same = ap (λ n. if nat_le 2147483648 n then Some (LogFull n) else None) (same_length h g to back is)

  pub same_place : (id : Id) → place_of g id ≡ option_map to (place_of h id)
  same_place id = by (place_of h id) refl (place_of g id) refl
    where
      by : (o : Option ℕ) → place_of h id ≡ o → (u : Option ℕ) → place_of g id ≡ u → place_of g id ≡ option_map to o
      by None none None also = also
      by None none (Some q) also = absurd (no_place h id none (back q) (place_back h g to back is id q (place_has g id q also)))
      by (Some p) some u also = place_is g (turned h g to back is).once id (to p) (place_to h g to back is id p (place_has h id p some))

  pub same_parent : (parent : Option Id) → IsAlike h g to parent
  same_parent None = record { place = refl; tree = refl }
  same_parent (Some id) = record {
    place = same_place id;
    tree = ap (λ o. option_map_or (tree_at g) o []) (same_place id) ∙ tree_there (place_of h id);
  }

  -- what is above a parent is the same
  pub same_above : (parent : Option Id) (id : Id) → is_above g parent id ≡ is_above h parent id
  same_above parent id = ap (λ o. option_map_or (reaches (length g) g id) o false) (same_parent parent).place ∙ reached_there id (option_and_then (place_of h) parent)

  known_same : (parent : Option Id) → IsKnownAlike h g parent
  known_same parent = record {
    held = ap is_none (same_parent parent).place ∙ none_moved to (option_and_then (place_of h) parent);
    tree = (same_parent parent).tree;
    above = same_above parent;
  }

  all_known : (edges : List Edge) → AreKnownAlike h g edges
  all_known [] = tt
  all_known (e ∷ es) = (known_same e.parent, all_known es)

  -- so a text has one refusal over both
  pub same_refusal : (f : List ℕ → List ℕ) (files : Table) (new : Id) (r : Spelled) → refusal_of f files g new r ≡ refusal_of f files h new r
  same_refusal f files new r = judged_alike h g f files new r (all_known r.edges) full_same
