-- The tree that edges make over a history is one that it may have next.
use Rattle.std.specs.Prelude.{slice_get}
use Rattle.std.proofs.Common.{◌≡◌, ◌≤◌, ◌<◌, ℕ, List, [], ◌∷◌, ◌++◌, length, None, refl, sym, subst, arith}
use Rattle.mtn_base.specs.declared.id.Id.{Id}
use Rattle.mtn_changes.specs.declared.change.Edge.{Edge}
use Rattle.mtn_changes.specs.RevisionText.{AreEdges}
use Rattle.mtn_changeset_laws.specs.Changes.{or_else}
use Rattle.mtn_entry_laws.specs.Entries.{AreBounded, HasLawfulEntries, HaveLawfulEntries}
use Rattle.mtn_entry_laws.proofs.LawfulEntries.{made_spells}
use Rattle.mtn_entry_laws.proofs.TreeEntries.{nothing_spells}
use Rattle.mtn_history_laws.specs.History.{Revision}
use Rattle.mtn_make_roster.specs.Basis.{IsBasis, Underlies, edges_refusal, made_refusal}
use Rattle.mtn_make_roster.specs.declared.basis.Basis.{Basis}
use Rattle.mtn_make_roster.specs.declared.basis.Basis.TheVariants.{Root, One, Two}
use Rattle.mtn_make_roster.proofs.Based.{extends, held_root, held_one, held_two}
use Rattle.mtn_marking.specs.Graph.{IsMarkedAt}
use Rattle.mtn_marking.specs.Marking.{MarkedTree}
use Rattle.mtn_replay.specs.Making.{made, made_tree, parents_of, bad_change, bad_join, too_many, too_long, unknown_parent}
use Rattle.mtn_replay.proofs.Places.{no_place}
use Rattle.mtn_replay.proofs.Steps.{both_none}
use Rattle.mtn_roster.specs.Tree.{Tree}
use Rattle.mtn_put_revision.specs.Writing.{AllAscend, IsNextTree}
use Rattle.mtn_put_revision.proofs.Numbers.{few_nodes}

parents_known : (h : List Revision) (edges : List Edge) (basis : Basis) → IsBasis h edges basis → unknown_parent h edges ≡ None
parents_known h [] basis is = absurd is
parents_known h (e ∷ []) Root is = held_root h e is
parents_known h (e ∷ []) (One parent) is = held_one h e is.0 is.1.place
parents_known h (e ∷ []) (Two left right only_left only_right) is = absurd is
parents_known h (e ∷ f ∷ []) Root is = absurd is
parents_known h (e ∷ f ∷ []) (One parent) is = absurd is
parents_known h (e ∷ f ∷ []) (Two left right only_left only_right) is = held_two h e f is.p is.q is.left_at.place is.right_at.place
parents_known h (e ∷ f ∷ g ∷ more) basis is = absurd is

module _ (h : List Revision) (edges : List Edge) (new : Id) (fine : made_refusal h new edges ≡ None) where
  pub few_made : length (made_tree h new edges) ≤ 100000
  few_made =
      let t = made_tree h new edges in
      few_nodes t (both_none (too_many t) (too_long t) (both_none (edges_refusal h new edges) (or_else (too_many t) (too_long t)) fine).1).0

  pub next_tree : (basis : Basis) (t : MarkedTree) → Underlies h edges basis new → AreEdges edges → AreBounded edges → HaveLawfulEntries h → t.tree ≡ made_tree h new edges →
      IsMarkedAt (h ++ made h new edges ∷ []) (length h) t → IsNextTree h (made h new edges) t
  next_tree basis t under lawful bounded spell is marked =
      let whole = made_tree h new edges in
      let changes = both_none (bad_change h 1 edges) (bad_join h new edges) (both_none (edges_refusal h new edges) (or_else (too_many whole) (too_long whole)) fine).0 in
      record {
        grown = (extends h under.grown new under.fresh edges lawful fine t.tree is (length h) refl (parents_of h edges) (parents_known h edges basis under.parents) refl).grown;
        marked = marked;
        few = subst (λ (u : Tree). length u ≤ 100000) (sym is) few_made;
        entries = subst HasLawfulEntries (sym is) (made_spells h under.grown spell new (no_place h new under.fresh) edges lawful bounded changes.0);
      }

-- a tree of more nodes is none
pub too_many_made : (h : List Revision) (edges : List Edge) (new : Id) (t : Tree) → made_refusal h new edges ≡ None → t ≡ made_tree h new edges → 100000 < length t → ⊥
too_many_made h edges new t fine is more = let few = subst (λ (u : Tree). length u ≤ 100000) (sym is) (few_made h edges new fine) in omega (arith, few, more)

-- nothing has lawful entries, and no lists ascend each
pub nothing_lawful : HaveLawfulEntries []
nothing_lawful r = nothing_spells

pub none_ascend : AllAscend []
none_ascend es c = absurd (omega (arith, c.1))

-- no place is the first of none alone
pub no_first : (places : List ℕ) → slice_get places 0 ≡ None → places ≡ []
no_first [] none = refl
no_first (p ∷ places) none = absurd cc
