-- The history grows by what edges make on a basis.
use Rattle.std.proofs.Common.{◌≡◌, ℕ, List, [], ◌∷◌, length, None, subst, Bor}
use Rattle.mtn_base.specs.declared.id.Id.{Id}
use Rattle.mtn_changes.specs.declared.change.Edge.{Edge}
use Rattle.mtn_changes.specs.RevisionText.{AreEdges}
use Rattle.mtn_history_laws.specs.History.{Revision, parents_at}
use Rattle.mtn_replay.specs.Making.{made, made_tree}
use Rattle.mtn_marking.specs.Graph.{IsMarkedAt, Extends}
use Rattle.mtn_marking.specs.Marking.{MarkedTree}
use Rattle.mtn_mark_laws.specs.Rule.{AreUncommon}
use Rattle.mtn_roster.specs.Tree.{Tree}
use Rattle.mtn_make_roster.specs.Basis.{IsBasis, Underlies, made_refusal}
use Rattle.mtn_make_roster.specs.declared.basis.Basis.{Basis}
use Rattle.mtn_make_roster.specs.declared.basis.Basis.TheVariants.{Root, One, Two}
use Rattle.mtn_make_roster.specs.declared.basis.Uncommon.{Uncommon}
use Rattle.mtn_make_roster.proofs.Based.{extends, held_root, held_one, held_two, parents_root, parents_one, parents_two}

pub record OnOne (h : List Revision) (next : Revision) (at : ℕ) (t : Tree) (parent : MarkedTree) : Type 0 where
  pub p : ℕ
  pub extends : Extends h next at (p ∷ []) t
  pub marked : IsMarkedAt h p parent

pub record OnTwo (h : List Revision) (next : Revision) (at : ℕ) (t : Tree) (left right : MarkedTree) (only_left only_right : List ℕ) : Type 0 where
  pub p : ℕ
  pub q : ℕ
  pub extends : Extends h next at (p ∷ q ∷ []) t
  pub left_marked : IsMarkedAt h p left
  pub right_marked : IsMarkedAt h q right
  pub left_alone : AreUncommon (parents_at h) p q only_left
  pub right_alone : AreUncommon (parents_at h) q p only_right

module _ (h : List Revision) (edges : List Edge) (new : Id) (b : Basis) (u : Underlies h edges b new) (lawful : AreEdges edges) (fine : made_refusal h new edges ≡ None)
    (t : Tree) (is : t ≡ made_tree h new edges) (at : ℕ) (here : at ≡ length h) where
  pub root_grows : b ≡ Root → Extends h (made h new edges) at [] t
  root_grows root = by edges lawful fine is (subst (IsBasis h edges) root u.parents)
    where
      by : (es : List Edge) → AreEdges es → made_refusal h new es ≡ None → t ≡ made_tree h new es → IsBasis h es Root → Extends h (made h new es) at [] t
      by [] l f m k = absurd l
      by (e ∷ []) l f m k = extends h u.grown new u.fresh (e ∷ []) l f t m at here [] (held_root h e k) (parents_root h e k)
      by (e ∷ g ∷ []) l f m k = absurd k
      by (e ∷ g ∷ j ∷ more) l f m k = absurd l

  pub one_grows : (parent : Bor MarkedTree) → b ≡ One parent → OnOne h (made h new edges) at t parent.now
  one_grows parent one = by edges lawful fine is (subst (IsBasis h edges) one u.parents)
    where
      by : (es : List Edge) → AreEdges es → made_refusal h new es ≡ None → t ≡ made_tree h new es → IsBasis h es (One parent) → OnOne h (made h new es) at t parent.now
      by [] l f m k = absurd l
      by (e ∷ []) l f m k = record {
        p = k.0;
        extends = extends h u.grown new u.fresh (e ∷ []) l f t m at here (k.0 ∷ []) (held_one h e k.0 k.1.place) (parents_one h e k.0 k.1.place);
        marked = k.1.marked;
      }
      by (e ∷ g ∷ []) l f m k = absurd k
      by (e ∷ g ∷ j ∷ more) l f m k = absurd l

  pub two_grow : (left right : Bor MarkedTree) (ol or : Bor Uncommon) → b ≡ Two left right ol or → OnTwo h (made h new edges) at t left.now right.now ol.now.positions or.now.positions
  two_grow left right ol or two = by edges lawful fine is (subst (IsBasis h edges) two u.parents)
    where
      by : (es : List Edge) → AreEdges es → made_refusal h new es ≡ None → t ≡ made_tree h new es → IsBasis h es (Two left right ol or) → OnTwo h (made h new es) at t left.now right.now ol.now.positions or.now.positions
      by [] l f m k = absurd l
      by (e ∷ []) l f m k = absurd k
      by (e ∷ g ∷ []) l f m k = record {
        p = k.p;
        q = k.q;
        extends = extends h u.grown new u.fresh (e ∷ g ∷ []) l f t m at here (k.p ∷ k.q ∷ []) (held_two h e g k.p k.q k.left_at.place k.right_at.place) (parents_two h e g k.p k.q k.left_at.place k.right_at.place);
        left_marked = k.left_at.marked;
        right_marked = k.right_at.marked;
        left_alone = k.left_alone.positions;
        right_alone = k.right_alone.positions;
      }
      by (e ∷ g ∷ j ∷ more) l f m k = absurd l
