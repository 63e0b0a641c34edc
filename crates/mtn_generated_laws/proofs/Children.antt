-- A text of the log that has one edge makes a child of its parent.
use Rattle.std.specs.Prelude.{is_none, slice_get, take}
use Rattle.std.specs.List.{cons_option}
use Rattle.std.specs.Option.{option_map_or}
use Rattle.std.proofs.Common.{◌≡◌, ℕ, zero, suc, List, [], ◌∷◌, Option, Some, None, refl, sym, ap, ◌∙◌, subst}
use Rattle.mtn_base.specs.Hex.{id_of}
use Rattle.mtn_base.specs.declared.id.Id.{Id}
use Rattle.mtn_base.specs.declared.refusal.Cause.TheVariants.{UnknownParent}
use Rattle.mtn_changes.specs.declared.change.Change.{Change}
use Rattle.mtn_changes.specs.declared.change.Edge.{Edge}
use Rattle.mtn_changes.specs.declared.change.Revision.{Revision as Spelled}
use Rattle.mtn_changes.proofs.OneValue.{same_revision}
use Rattle.mtn_changeset_laws.specs.Changes.{tree_after}
use Rattle.mtn_history_laws.specs.History.{IsGrown, IsPlaceOf, Revision, parents_at, revision_parents, revision_tree, tree_at}
use Rattle.mtn_model.specs.State.{Logged}
use Rattle.mtn_model.specs.Table.{Table}
use Rattle.mtn_replay.specs.Lawful.{IsHistory, Spells}
use Rattle.mtn_replay.specs.Making.{log_full, made, place_of, unknown_parent}
use Rattle.mtn_replay.specs.Texts.{text_under}
use Rattle.mtn_replay.proofs.Histories.{history_is_grown}
use Rattle.mtn_replay.proofs.Places.{no_place, place_has}
use Rattle.mtn_replay.proofs.Steps.{both_none, first_fails, is_there, unmapped}
use Rattle.mtn_generated_laws.proofs.Held.{IsLogged, logged_at}

-- a revision of which it is known where it and its parent stand, and what changes made its tree
pub record IsChild (h : List Revision) (id parent : Id) (changes : List Change) : Type 0 where
  pub place : ℕ
  pub above : ℕ
  pub at : place_of h id ≡ Some place
  pub parent_at : place_of h parent ≡ Some above
  pub parents : parents_at h place ≡ above ∷ []
  pub tree : tree_at h place ≡ tree_after (tree_at h above) changes id

-- the front of a list
front_at : {X : Type 0} (xs : List X) (k j : ℕ) (x : X) → slice_get (take k xs) j ≡ Some x → slice_get xs j ≡ Some x
front_at xs zero j x e = absurd cc
front_at [] (suc k) j x e = absurd cc
front_at (y ∷ ys) (suc k) zero x e = e
front_at (y ∷ ys) (suc k) (suc j) x e = front_at ys k j x e

-- the place of an id is where it stands
pub placed : (h : List Revision) → IsGrown h → (id : Id) (k : ℕ) → IsPlaceOf h id k → place_of h id ≡ Some k
placed h grown id k stands = by (place_of h id) refl
  where
    by : (o : Option ℕ) → place_of h id ≡ o → o ≡ Some k
    by None e = absurd (no_place h id e k stands)
    by (Some q) e = ap (λ (n : ℕ). Some n) (grown.differ id q k (place_has h id q e) stands)

module _ (f : List ℕ → List ℕ) (files : Table) (log : List Logged) (h : List Revision) (is : IsHistory f files log h) (text : List ℕ) (parent : Id) (changes : List Change) where
  abbrev edge : Edge
  edge = record { parent = Some parent; changes = changes }

  module _ (at : IsLogged f files h text) (read : Spelled) (one : read.edges ≡ edge ∷ []) (spells : Spells text read) where
    abbrev before : List Revision
    before = take at.place h

    edges : at.next.read.edges ≡ edge ∷ []
    edges = ap (λ (r : Spelled). r.edges) (same_revision text at.next.read read at.next.spells.stanzas spells.stanzas at.next.spells.reads spells.reads) ∙ one

    known : (p : ℕ) × (place_of before parent ≡ Some p)
    known =
        let fine = both_none (unknown_parent before at.next.read.edges) _ (both_none (log_full before) _ at.next.accepted).1 in
        let none : unknown_parent before (edge ∷ []) ≡ None = subst (λ es. unknown_parent before es ≡ None) edges fine.0 in
        is_there (place_of before parent) (first_fails (λ (id : Id). is_none (place_of before id)) parent [] (unmapped UnknownParent _ none)).0

    grown : IsGrown h
    grown = history_is_grown f files log h is

    -- the parent stands before it
    stood : IsPlaceOf before parent known.0
    stood = place_has before parent known.0 known.1

    stands : slice_get h known.0 ≡ Some stood.0
    stands = front_at h at.place known.0 stood.0 stood.1

    abbrev made_by : Option ℕ → Revision
    made_by o = record { id = id_of (f text); parents = cons_option o []; tree = tree_after (option_map_or (tree_at before) o []) changes (id_of (f text)) }

    is_made : at.revision ≡ made_by (Some known.0)
    is_made = at.next.made ∙ ap (made before (id_of (f text))) edges ∙ ap made_by known.1

    pub child : IsChild h (id_of (f text)) parent changes
    child = record {
      place = at.place;
      above = known.0;
      at = placed h grown (id_of (f text)) at.place (at.revision, at.at, ap (λ (v : Revision). v.id) is_made);
      parent_at = placed h grown parent known.0 (stood.0, stands, stood.2);
      parents = ap revision_parents at.at ∙ ap (λ (v : Revision). v.parents) is_made;
      tree = ap revision_tree at.at ∙ ap (λ (v : Revision). v.tree) is_made
          ∙ ap (λ t. tree_after t changes (id_of (f text))) (ap revision_tree stood.1 ∙ sym (ap revision_tree stands));
    }

  pub child_of_text : text_under log (f text) ≡ Some text → (read : Spelled) → read.edges ≡ edge ∷ [] → Spells text read → IsChild h (id_of (f text)) parent changes
  child_of_text there read one spells = child (logged_at f files log h text is there) read one spells
