-- Each tree of a history has lawful entries.
use Rattle.std.specs.Prelude.{All, slice_get}
use Rattle.std.specs.Option.{option_map_or}
use Rattle.std.proofs.Common.{◌≡◌, ◌≤◌, ◌<◌, ℕ, zero, suc, List, [], ◌∷◌, ◌++◌, length, take, Option, Some, None, refl, sym, ap, subst, inl, inr, arith}
use Rattle.std.proofs.lemmas.List.{take_all}
use Rattle.mtn_base.specs.Hex.{id_of}
use Rattle.mtn_base.specs.declared.id.Id.{Id}
use Rattle.mtn_changes.specs.declared.change.Edge.{Edge}
use Rattle.mtn_changes.specs.ChangesText.{AreChanges}
use Rattle.mtn_changes.specs.RevisionText.{AreEdges}
use Rattle.mtn_changes.proofs.Unsorted.{unsorted}
use Rattle.mtn_history_laws.specs.History.{Revision, tree_at, revision_tree, IsGrown}
use Rattle.mtn_model.specs.State.{Logged}
use Rattle.mtn_model.specs.Table.{Table}
use Rattle.mtn_roster.specs.Tree.{Tree, IsSane}
use Rattle.mtn_changeset_laws.specs.Changes.{first_fault}
use Rattle.mtn_changeset_laws.specs.Laws.{IsOldTree, NoneBornIn, IsFresh}
use Rattle.mtn_changeset_laws.proofs.AfterSane.{after_is_sane}
use Rattle.mtn_changeset_laws.proofs.Renaming.{renames_differ}
use Rattle.mtn_changeset_laws.proofs.Stepping.{unborn_at}
use Rattle.mtn_replay.specs.Making.{place_of, parent_tree, edge_tree, made_tree, bad_change}
use Rattle.mtn_replay.specs.Lawful.{IsNext, IsHistory}
use Rattle.mtn_replay.proofs.Places.{within, no_place, place_within}
use Rattle.mtn_replay.proofs.Steps.{both_none, unmapped}
use Rattle.mtn_replay.proofs.Histories.{Place, place, kept_at, last_at, history_is_grown, history_none, history_more}
use Rattle.mtn_replay.proofs.Histories.Place.{in_front, at_back}
use Rattle.mtn_entry_laws.specs.Entries.{HasLawfulEntries, HaveLawfulEntries, IsBounded, AreBounded}
use Rattle.mtn_entry_laws.proofs.Short.{text_bounds}
use Rattle.mtn_entry_laws.proofs.TreeEntries.{nothing_spells, after_spells, joined_spells}

-- what is known of a parent's tree
record IsParent (t : Tree) (new : Id) : Type 0 where
  old : IsOldTree t
  spell : HasLawfulEntries t
  unborn : NoneBornIn t new

nothing_old : (new : Id) → IsParent [] new
nothing_old new = record { old = inl refl; spell = nothing_spells; unborn = λ n e h. absurd cc }

module _ (h : List Revision) (grown : IsGrown h) (spell : HaveLawfulEntries h) (new : Id) (fresh : IsFresh h new) where
  parent_of : (parent : Option Id) → IsParent (parent_tree h parent) new
  parent_of None = nothing_old new
  parent_of (Some id) = by (place_of h id) refl
    where
      by : (o : Option ℕ) → place_of h id ≡ o → IsParent (option_map_or (tree_at h) o []) new
      by None is = nothing_old new
      by (Some p) is = record { old = inr (grown.sane p (place_within h id p is)); spell = spell p; unborn = unborn_at h p new grown.born fresh }

  edge_spells : (e : Edge) → AreChanges e.changes → All IsBounded e.changes → HasLawfulEntries (edge_tree h new e)
  edge_spells e lawful short = let p = parent_of e.parent in after_spells (parent_tree h e.parent) e.changes new p.old p.spell (unsorted e.changes lawful).each short

  edge_sane : (e : Edge) → AreChanges e.changes → first_fault (parent_tree h e.parent) e.changes ≡ None → IsSane (edge_tree h new e)
  edge_sane e lawful fine =
      let p = parent_of e.parent in
      after_is_sane (parent_tree h e.parent) e.changes new p.old (renames_differ e.changes (unsorted e.changes lawful)) p.unborn fine

  pub made_spells : (edges : List Edge) → AreEdges edges → AreBounded edges → bad_change h 1 edges ≡ None → HasLawfulEntries (made_tree h new edges)
  made_spells [] lawful short fine = absurd lawful
  made_spells (e ∷ []) lawful short fine = edge_spells e lawful (short 0 e (omega arith))
  made_spells (e ∷ g ∷ []) lawful short fine =
      let c = both_none _ _ fine in
      let d = both_none _ _ c.1 in
      joined_spells (edge_tree h new e) (edge_tree h new g) new (edge_sane e lawful.0 (unmapped _ _ c.0)) (edge_sane g lawful.1 (unmapped _ _ d.0)) (edge_spells e lawful.0 (short 0 e (omega arith))) (edge_spells g lawful.1 (short 1 g (omega arith)))
  made_spells (e ∷ g ∷ k ∷ more) lawful short fine = absurd lawful

next_spells : (f : List ℕ → List ℕ) (files : Table) (h : List Revision) (l : Logged) (v : Revision) → IsGrown h → HaveLawfulEntries h → IsNext f files h l v → HasLawfulEntries v.tree
next_spells f files h l v grown spell next =
    let a = both_none _ _ next.accepted in
    let b = both_none _ _ a.1 in
    let c = both_none _ _ b.1 in
    subst (λ (r : Revision). HasLawfulEntries r.tree) (sym next.made) (made_spells h grown spell (id_of l.id) (no_place h (id_of l.id) next.fresh) next.read.edges next.spells.reads.lawful (text_bounds l.text next.read next.spells.reads next.short) c.0)

more_spell : (h : List Revision) (v : Revision) → HaveLawfulEntries h → HasLawfulEntries v.tree → HaveLawfulEntries (h ++ v ∷ [])
more_spell h v spell new p = by (slice_get (h ++ v ∷ []) p) refl
  where
    by_place : (k : ℕ) → Place h k → HasLawfulEntries (tree_at (h ++ v ∷ []) k)
    by_place k (in_front lt) = subst (λ o. HasLawfulEntries (revision_tree o)) (sym (kept_at h v k lt)) (spell k)
    by_place k at_back = subst (λ o. HasLawfulEntries (revision_tree o)) (sym (last_at h v)) new

    by : (o : Option Revision) → slice_get (h ++ v ∷ []) p ≡ o → HasLawfulEntries (tree_at (h ++ v ∷ []) p)
    by None e = subst (λ o. HasLawfulEntries (revision_tree o)) (sym e) nothing_spells
    by (Some w) e = by_place p (place h v w p e)

front_more : {X : Type 0} (xs : List X) (k : ℕ) (x : X) → slice_get xs k ≡ Some x → take (suc k) xs ≡ take k xs ++ x ∷ []
front_more [] k x e = absurd cc
front_more (y ∷ ys) zero x e = let same : y ≡ x = cc in ap (λ z. z ∷ []) same
front_more (y ∷ ys) (suc k) x e = ap (λ zs. y ∷ zs) (front_more ys k x e)

module _ (f : List ℕ → List ℕ) (files : Table) (log : List Logged) (h : List Revision) (is : IsHistory f files log h) where
  record IsFront (k : ℕ) : Type 0 where
    history : IsHistory f files (take k log) (take k h)
    spell : HaveLawfulEntries (take k h)

  front : (k : ℕ) → k ≤ length h → IsFront k
  front zero le = record { history = history_none f files; spell = λ p. nothing_spells }
  front (suc k) le =
      let lt : k < length h = omega (arith, le) in
      let before = front k (omega (arith, le)) in
      let v = within h k lt in
      let l = within log k (subst (λ n. k < n) is.long lt) in
      let next = is.each k l.0 v.0 l.1 v.1 in
      let grown = history_is_grown f files (take k log) (take k h) before.history in
      record {
        history = subst (λ ls. IsHistory f files ls (take (suc k) h)) (sym (front_more log k l.0 l.1)) (subst (IsHistory f files (take k log ++ l.0 ∷ [])) (sym (front_more h k v.0 v.1)) (history_more f files (take k log) (take k h) l.0 v.0 before.history next));
        spell = subst HaveLawfulEntries (sym (front_more h k v.0 v.1)) (more_spell (take k h) v.0 before.spell (next_spells f files (take k h) l.0 v.0 grown before.spell next));
      }

  pub all_spell : HaveLawfulEntries h
  all_spell = subst HaveLawfulEntries (take_all (length h) h (omega arith)) (front (length h) (omega arith)).spell
