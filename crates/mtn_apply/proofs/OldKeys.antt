-- An old node that stands somewhere is a node of the old tree, so its keys ascend.
use Rattle.std.specs.Prelude.{slice_get, map, find, reverse, option_map, option_and_then}
use Rattle.std.specs.List.{list_all}
use Rattle.std.specs.Cmp.{first_so, second_so}
use Rattle.std.proofs.Common.{◌≡◌, ℕ, zero, suc, Bool, true, false, cond, List, [], ◌∷◌, ◌++◌, Option, Some, None, sym, ◌∙◌, ap, subst, ⊎_elim}
use Rattle.mtn_base.specs.Names.{bytes_cmp}
use Rattle.mtn_roster.specs.declared.entry.Entry.{Entry}
use Rattle.mtn_roster.specs.declared.entry.Attr.{Attr}
use Rattle.mtn_roster.specs.declared.entry.Slot.{Slot}
use Rattle.mtn_roster.specs.declared.entry.Slot.TheVariants.{Root}
use Rattle.mtn_roster.specs.Tree.{Tree, at_slot, root_of, child_of, node_up, node_at, is_dir, same_slot}
use Rattle.mtn_base.specs.Lists.{rises}
use Rattle.mtn_base.proofs.Finding.{Split, found, later}
use Rattle.mtn_base.proofs.Members.{head}
use Rattle.mtn_roster.proofs.Forest.{chained}
use Rattle.mtn_base.proofs.Sorting.{no_split}
use Rattle.mtn_changes.specs.declared.change.Change.{Change}
use Rattle.mtn_changes.specs.declared.change.Change.TheVariants.{Delete, Rename, AddDir, AddFile, Patch, Clear, Set}
use Rattle.mtn_changeset_laws.specs.Changes.{Occupant, is_kept, if_kept, kept_child, put_by, occupant_by, occupant_up, occupant, aims_at}
use Rattle.mtn_changeset_laws.specs.Changes.Occupant.{Old, Added}
use Rattle.mtn_changeset_laws.specs.Laws.{IsOldTree}
use Rattle.mtn_apply.specs.Old.{HasRisingKeys}

abbrev pub has_keys : Entry → Bool
has_keys e = rises bytes_cmp (map (λ (a : Attr). a.key) e.attrs)

pub all_in : {X : Type 0} (p : X → Bool) (xs : List X) (x : X) → list_all p xs ≡ true → Split xs x → p x ≡ true
all_in {X} p xs x h s = go s.before (ap (list_all p) (sym s.is) ∙ h)
  where
    go : (before : List X) → list_all p (before ++ x ∷ s.rest) ≡ true → p x ≡ true
    go [] g = first_so _ _ g
    go (b ∷ before) g = go before (second_so (p b) _ g)

pub placed_in : {X : Type 0} (xs : List X) (k : ℕ) (x : X) → slice_get xs k ≡ Some x → Split xs x
placed_in [] k x h = absurd cc
placed_in (y ∷ xs) zero x h = let e : y ≡ x = cc in subst (Split (y ∷ xs)) e (head y xs)
placed_in (y ∷ xs) (suc k) x h = later y xs x (placed_in xs k x h)

module _ (old : Tree) (all : List Change) where
  slot_in : (s : Slot) (e : Entry) → at_slot old s ≡ Some e → Split old e
  slot_in s e h = (found (λ (f : Entry). same_slot f.slot s) old e h).at

  pub node_in : (up : List (List ℕ)) (e : Entry) → node_up old up ≡ Some e → Split old e
  node_in [] e h = slot_in _ e h
  node_in (name ∷ up) e h = let c = chained (child_of old name) (node_up old up) e h in slot_in _ e c.2

  kept_is : (b : Bool) (x e : Entry) → cond b (Some (Old x)) None ≡ Some (Old e) → x ≡ e
  kept_is true x e h = cc
  kept_is false x e h = absurd cc

  kept_in : (s : Slot) (e : Entry) → option_and_then (if_kept old all) (at_slot old s) ≡ Some (Old e) → Split old e
  kept_in s e h = let c = chained (if_kept old all) (at_slot old s) (Old e) h in subst (Split old) (kept_is (is_kept old all c.0) c.0 e c.2) (slot_in s c.0 c.1)

  child_in : (name : List ℕ) (o : Occupant) (e : Entry) → kept_child old all name o ≡ Some (Old e) → Split old e
  child_in name (Added p body) e h = absurd cc
  child_in name (Old d) e h = at (is_dir d) h
    where
      at : (b : Bool) → cond b (option_and_then (if_kept old all) (child_of old name d)) None ≡ Some (Old e) → Split old e
      at true g = kept_in _ e g
      at false g = absurd cc

  mapped : (o : Option Entry) (e : Entry) → option_map Old o ≡ Some (Old e) → o ≡ Some e
  mapped None e h = absurd cc
  mapped (Some x) e h = let g : x ≡ e = cc in ap Some g

  put_in : (c : Change) (e : Entry) → put_by old c ≡ Some (Old e) → Split old e
  put_in (Delete p) e h = absurd cc
  put_in (Rename p to) e h = node_in (reverse p) e (mapped (node_at old p) e h)
  put_in (AddDir p) e h = absurd cc
  put_in (AddFile p c) e h = absurd cc
  put_in (Patch p a b) e h = absurd cc
  put_in (Clear p k) e h = absurd cc
  put_in (Set p k v) e h = absurd cc

  by_in : (aside : Option Occupant) (c : Option Change) (e : Entry) → ((f : Entry) → aside ≡ Some (Old f) → Split old f) → occupant_by old aside c ≡ Some (Old e) → Split old e
  by_in aside None e h g = h e g
  by_in aside (Some c) e h g = put_in c e g

  pub occupant_in : (up : List (List ℕ)) (e : Entry) → occupant_up old all up ≡ Some (Old e) → Split old e
  occupant_in [] e h = by_in (option_and_then (if_kept old all) (root_of old)) (find (aims_at []) all) e (λ f g. kept_in Root f g) h
  occupant_in (name ∷ up) e h =
      by_in (option_and_then (kept_child old all name) (occupant_up old all up)) (find (aims_at (reverse (name ∷ up))) all) e
      (λ f g. let c = chained (kept_child old all name) (occupant_up old all up) (Old f) g in child_in name c.0 f c.2) h

  pub old_keys : IsOldTree old → (e : Entry) → Split old e → has_keys e ≡ true
  old_keys sane e s = ⊎_elim (λ q. absurd (no_split e (subst (λ (t : Tree). Split t e) q s))) (λ h. all_in has_keys old e (second_so _ _ h.ordered) s) sane

  pub rising_keys : IsOldTree old → (p : List (List ℕ)) (o : Option Occupant) → o ≡ occupant old all p → HasRisingKeys o
  rising_keys sane p None h = tt
  rising_keys sane p (Some (Added q body)) h = tt
  rising_keys sane p (Some (Old e)) h = old_keys sane e (occupant_in (reverse p) e (sym h))
