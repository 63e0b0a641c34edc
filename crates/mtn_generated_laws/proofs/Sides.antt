-- A patch, and an attribute that is set beside it, change different things.
use Rattle.std.specs.Prelude.{filter_map, option_and_then, option_map}
use Rattle.std.proofs.Common.{◌≡◌, ◌⊎◌, ℕ, Bool, true, false, cond, List, [], ◌∷◌, ◌++◌, Option, Some, None, refl, sym, ◌∙◌, ap, inl, inr}
use Rattle.std.proofs.lemmas.List.{append-nil}
use Rattle.mtn_base.specs.Names.{same_name}
use Rattle.mtn_base.specs.declared.id.Id.{Id}
use Rattle.mtn_base.specs.declared.name.NodeName.{NodeName}
use Rattle.mtn_changes.specs.declared.change.Change.{Change}
use Rattle.mtn_changes.specs.declared.change.Change.TheVariants.{Patch, Set}
use Rattle.mtn_changeset_laws.specs.Changes.{edited, is_at, old_after, tree_after}
use Rattle.mtn_changeset_laws.proofs.After.{edited-name}
use Rattle.mtn_history_laws.specs.History.{Revision, parents_at, tree_at}
use Rattle.mtn_history_laws.specs.Scalars.{Scalar, content_of, value_at, value_in, value_of}
use Rattle.mtn_history_laws.specs.Scalars.Scalar.{AttrOf, ContentOf, SlotOf}
use Rattle.mtn_history_laws.specs.Scalars.Value.{AttrValue, ContentValue, SlotValue}
use Rattle.mtn_roster.specs.Tree.{Tree, attr_of, entry_of}
use Rattle.mtn_roster.specs.declared.entry.Entry.{Entry}
use Rattle.mtn_roster.proofs.Looking.{entry_of-in_order}
use Rattle.mtn_generated_laws.specs.Siblings.{AreSiblings}

-- what both ways lead to
either_way : {A B : Type 0} (f : A → B) (b : Bool) (x y : A) (v : B) → f x ≡ v → f y ≡ v → f (cond b x y) ≡ v
either_way f true x y v p q = p
either_way f false x y v p q = q

-- an edit of each entry leaves every value of a scalar that it leaves in each
kept : (s : Scalar) (g : Entry → Entry) (o : Option Entry) → ((e : Entry) → value_of s (g e) ≡ value_of s e) → option_and_then (value_of s) (option_map g o) ≡ option_and_then (value_of s) o
kept s g None same = refl
kept s g (Some e) same = same e

module _ (old : Tree) (new : Id) (p : List (List ℕ)) where
  module _ (from to : Id) where
    abbrev patch : List Change
    patch = Patch p from to ∷ []

    abbrev patched : Entry → Entry
    patched = edited old patch new (Patch p from to)

    patched_in : (xs : List Entry) (n : NodeName) → entry_of (filter_map (old_after old patch new) xs) n ≡ option_map patched (entry_of xs n)
    patched_in [] n = refl
    patched_in (x ∷ xs) n =
        ap (λ m. cond (same_name m n) (Some (patched x)) (entry_of (filter_map (old_after old patch new) xs) n)) (edited-name old patch new (Patch p from to) x)
        ∙ (elim (same_name x.name n) as (λ b. cond b (Some (patched x)) (entry_of (filter_map (old_after old patch new) xs) n) ≡ option_map patched (cond b (Some x) (entry_of xs n))) [ true ↦ refl | false ↦ patched_in xs n ])

    patched_entry : (n : NodeName) → entry_of (tree_after old patch new) n ≡ option_map patched (entry_of old n)
    patched_entry n = entry_of-in_order (filter_map (old_after old patch new) old ++ []) n ∙ ap (λ l. entry_of l n) (append-nil (filter_map (old_after old patch new) old)) ∙ patched_in old n

    pub patch_keeps_slot : (n : NodeName) → value_in (tree_after old patch new) (SlotOf n) ≡ value_in old (SlotOf n)
    patch_keeps_slot n =
        ap (option_and_then (value_of (SlotOf n))) (patched_entry n)
        ∙ kept (SlotOf n) patched (entry_of old n) (λ e. ap (λ s. Some (SlotValue s)) (either_way (λ (x : Entry). x.slot) (is_at old patch new e.name p) _ _ _ refl refl))

    pub patch_keeps_attr : (n : NodeName) (k : List ℕ) → value_in (tree_after old patch new) (AttrOf n k) ≡ value_in old (AttrOf n k)
    patch_keeps_attr n k =
        ap (option_and_then (value_of (AttrOf n k))) (patched_entry n)
        ∙ kept (AttrOf n k) patched (entry_of old n) (λ e. ap (λ as'. option_map AttrValue (attr_of as' k)) (either_way (λ (x : Entry). x.attrs) (is_at old patch new e.name p) _ _ _ refl refl))

  module _ (key value : List ℕ) where
    abbrev setting : List Change
    setting = Set p key value ∷ []

    abbrev given : Entry → Entry
    given = edited old setting new (Set p key value)

    given_in : (xs : List Entry) (n : NodeName) → entry_of (filter_map (old_after old setting new) xs) n ≡ option_map given (entry_of xs n)
    given_in [] n = refl
    given_in (x ∷ xs) n =
        ap (λ m. cond (same_name m n) (Some (given x)) (entry_of (filter_map (old_after old setting new) xs) n)) (edited-name old setting new (Set p key value) x)
        ∙ (elim (same_name x.name n) as (λ b. cond b (Some (given x)) (entry_of (filter_map (old_after old setting new) xs) n) ≡ option_map given (cond b (Some x) (entry_of xs n))) [ true ↦ refl | false ↦ given_in xs n ])

    given_entry : (n : NodeName) → entry_of (tree_after old setting new) n ≡ option_map given (entry_of old n)
    given_entry n = entry_of-in_order (filter_map (old_after old setting new) old ++ []) n ∙ ap (λ l. entry_of l n) (append-nil (filter_map (old_after old setting new) old)) ∙ given_in old n

    pub set_keeps_slot : (n : NodeName) → value_in (tree_after old setting new) (SlotOf n) ≡ value_in old (SlotOf n)
    set_keeps_slot n =
        ap (option_and_then (value_of (SlotOf n))) (given_entry n)
        ∙ kept (SlotOf n) given (entry_of old n) (λ e. ap (λ s. Some (SlotValue s)) (either_way (λ (x : Entry). x.slot) (is_at old setting new e.name p) _ _ _ refl refl))

    pub set_keeps_content : (n : NodeName) → value_in (tree_after old setting new) (ContentOf n) ≡ value_in old (ContentOf n)
    set_keeps_content n =
        ap (option_and_then (value_of (ContentOf n))) (given_entry n)
        ∙ kept (ContentOf n) given (entry_of old n) (λ e. ap (λ b. option_map ContentValue (content_of b)) (either_way (λ (x : Entry). x.body) (is_at old setting new e.name p) _ _ _ refl refl))

module _ (h : List Revision) (parent left right : ℕ) (p q : List (List ℕ)) (from to x y : Id) (key value : List ℕ)
    (of_left : parents_at h left ≡ parent ∷ []) (of_right : parents_at h right ≡ parent ∷ [])
    (patches : tree_at h left ≡ tree_after (tree_at h parent) (Patch p from to ∷ []) x) (sets : tree_at h right ≡ tree_after (tree_at h parent) (Set q key value ∷ []) y) where
  left_slot : (n : NodeName) → value_at h (SlotOf n) left ≡ value_at h (SlotOf n) parent
  left_slot n = ap (λ t. value_in t (SlotOf n)) patches ∙ patch_keeps_slot (tree_at h parent) x p from to n

  right_slot : (n : NodeName) → value_at h (SlotOf n) right ≡ value_at h (SlotOf n) parent
  right_slot n = ap (λ t. value_in t (SlotOf n)) sets ∙ set_keeps_slot (tree_at h parent) y q key value n

  apart : (s : Scalar) → (value_at h s left ≡ value_at h s parent) ⊎ (value_at h s right ≡ value_at h s parent)
  apart (SlotOf n) = inl (left_slot n)
  apart (ContentOf n) = inr (ap (λ t. value_in t (ContentOf n)) sets ∙ set_keeps_content (tree_at h parent) y q key value n)
  apart (AttrOf n k) = inl (ap (λ t. value_in t (AttrOf n k)) patches ∙ patch_keeps_attr (tree_at h parent) x p from to n k)

  pub are_siblings : AreSiblings h parent left right
  are_siblings = record {
    left_parent = of_left;
    right_parent = of_right;
    slots = λ n. left_slot n ∙ sym (right_slot n);
    apart = apart;
  }
