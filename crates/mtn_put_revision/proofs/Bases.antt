-- What the parents of a new revision make its basis.
use Rattle.std.specs.Prelude.{All, slice_get, find, is_none, option_and_then, filter_map, option_map}
use Rattle.std.specs.List.{cons_option}
use Rattle.std.proofs.Common.{◌≡◌, ◌<◌, ℕ, Bool, true, false, cond, List, [], ◌∷◌, length, Option, Some, None, refl, sym, ap, ◌∙◌, subst, arith}
use Rattle.mtn_base.specs.declared.id.Id.{Id}
use Rattle.mtn_changes.specs.declared.change.Edge.{Edge}
use Rattle.mtn_changes.specs.RevisionText.{AreEdges, Ascend}
use Rattle.mtn_history_laws.specs.History.{Revision, IsGrown}
use Rattle.mtn_replay.specs.Making.{place_of, parents_of, unknown_parent}
use Rattle.mtn_roster_deltas.specs.Chain.{Entries}
use Rattle.mtn_history.specs.Revisions.{Kept}
use Rattle.mtn_make_roster.specs.Basis.{IsBasis, IsParentAt, AreTwoParents, AreUncommonIn, Underlies}
use Rattle.mtn_make_roster.specs.declared.basis.Basis.{Basis}
use Rattle.mtn_make_roster.specs.declared.basis.Basis.TheVariants.{Root}
use Rattle.mtn_history_laws.proofs.Growing.{grown_none}
use Rattle.mtn_model.specs.State.{State}
use Rattle.mtn_model.specs.Table.{Contents}
use Rattle.mtn_history.specs.Stands.{IsFounded}
use Rattle.mtn_history.specs.declared.pending.Pending.{Pending}
use Rattle.mtn_make_roster.specs.declared.basis.Uncommon.{Uncommon}
use Rattle.mtn_marking.specs.Graph.{IsMarkedAt}
use Rattle.mtn_marking.specs.Marking.{MarkedTree}
use Rattle.mtn_put_revision.specs.Keeping.{AreKeptAt, AreOn, AreParents, IsFirstDepth}
use Rattle.mtn_put_revision.specs.declared.over.NewRevision.{NewRevision}

place : List Revision → Edge → Option ℕ
place h e = option_and_then (place_of h) e.parent

-- an edge without a place has no parent, where none is lost
none_lost : (h : List Revision) (parent : Option Id) (more : List Id) → find (λ id. is_none (place_of h id)) (cons_option parent more) ≡ None → option_and_then (place_of h) parent ≡ None → parent ≡ None
none_lost h None more known is = refl
none_lost h (Some i) more known is = absurd (let t : cond (is_none (place_of h i)) (Some i) (find (λ id. is_none (place_of h id)) more) ≡ Some i = ap (λ o. cond (is_none o) (Some i) (find (λ id. is_none (place_of h id)) more)) is in clash (sym t ∙ known))
  where
    clash : {X : Type 0} {x : X} → Some x ≡ None → ⊥
    clash e = cc

rest_known : (h : List Revision) (parent : Option Id) (more : List Id) → find (λ id. is_none (place_of h id)) (cons_option parent more) ≡ None → find (λ id. is_none (place_of h id)) more ≡ None
rest_known h None more known = known
rest_known h (Some i) more known = by (is_none (place_of h i)) known
  where
    by : (b : Bool) → cond b (Some i) (find (λ id. is_none (place_of h id)) more) ≡ None → find (λ id. is_none (place_of h id)) more ≡ None
    by true e = absurd cc
    by false e = e

unmapped : {A B : Type 0} (f : A → B) (x : Option A) → option_map f x ≡ None → x ≡ None
unmapped f None h = refl
unmapped f (Some a) h = absurd cc

known_of : (h : List Revision) (edges : List Edge) → unknown_parent h edges ≡ None → find (λ id. is_none (place_of h id)) (filter_map (λ (e : Edge). e.parent) edges) ≡ None
known_of h edges known = unmapped _ (find (λ id. is_none (place_of h id)) (filter_map (λ (e : Edge). e.parent) edges)) known

one_of : (x : ℕ) (o : Option ℕ) → x ∷ [] ≡ cons_option o [] → o ≡ Some x
one_of x None e = absurd cc
one_of x (Some y) e = cc

none_of : (o : Option ℕ) → [] ≡ cons_option o [] → o ≡ None
none_of None e = refl
none_of (Some y) e = absurd cc

-- both parents of two edges are there
both_there : (h : List Revision) (a b : Option Id) → Ascend a b → find (λ id. is_none (place_of h id)) (cons_option a (cons_option b [])) ≡ None →
    (p : ℕ) × (q : ℕ) × (option_and_then (place_of h) a ≡ Some p) × (option_and_then (place_of h) b ≡ Some q)
both_there h None b up known = absurd up
both_there h (Some i) None up known = absurd up
both_there h (Some i) (Some j) up known = by (place_of h i) (place_of h j) refl refl
  where
    lost : {X : Type 0} {x : X} → Some x ≡ None → ⊥
    lost e = cc

    by : (o r : Option ℕ) → place_of h i ≡ o → place_of h j ≡ r → (p : ℕ) × (q : ℕ) × (place_of h i ≡ Some p) × (place_of h j ≡ Some q)
    by None r x y = absurd (lost (sym (ap (λ o. cond (is_none o) (Some i) (find (λ id. is_none (place_of h id)) (j ∷ []))) x) ∙ known))
    by (Some p) None x y = absurd (lost (sym (ap (λ o. cond (is_none o) (Some j) None) y) ∙ rest_known h (Some i) (j ∷ []) known))
    by (Some p) (Some q) x y = (p, q, x, y)

two_of : (x y p q : ℕ) (o r : Option ℕ) → o ≡ Some p → r ≡ Some q → x ∷ y ∷ [] ≡ cons_option o (cons_option r []) → (o ≡ Some x) × (r ≡ Some y)
two_of x y p q None r a b e = absurd cc
two_of x y p q (Some u) None a b e = absurd cc
two_of x y p q (Some u) (Some w) a b e = (let s : x ≡ u = cc in ap Some (sym s), let t : y ≡ w = cc in ap Some (sym t))

not_one : (x p q : ℕ) (o r : Option ℕ) → o ≡ Some p → r ≡ Some q → x ∷ [] ≡ cons_option o (cons_option r []) → ⊥
not_one x p q None r a b e = absurd cc
not_one x p q (Some u) None a b e = absurd cc
not_one x p q (Some u) (Some w) a b e = cc

not_none : (p q : ℕ) (o r : Option ℕ) → o ≡ Some p → r ≡ Some q → [] ≡ cons_option o (cons_option r []) → ⊥
not_none p q None r a b e = absurd cc
not_none p q (Some u) r a b e = cc

not_two : (x y : ℕ) (o : Option ℕ) → x ∷ y ∷ [] ≡ cons_option o [] → ⊥
not_two x y None e = cc
not_two x y (Some u) e = cc

pub root_shape : (h : List Revision) (edges : List Edge) → AreEdges edges → unknown_parent h edges ≡ None → [] ≡ parents_of h edges → (e : Edge) × (edges ≡ e ∷ []) × (e.parent ≡ None)
root_shape h [] lawful known is = absurd lawful
root_shape h (e ∷ []) lawful known is = (e, refl, none_lost h e.parent [] (known_of h (e ∷ []) known) (none_of (option_and_then (place_of h) e.parent) is))
root_shape h (e ∷ f ∷ []) lawful known is =
    let b = both_there h e.parent f.parent lawful.2 (known_of h (e ∷ f ∷ []) known) in
    absurd (not_none b.0 b.1 (option_and_then (place_of h) e.parent) (option_and_then (place_of h) f.parent) b.2 b.3 is)
root_shape h (e ∷ f ∷ g ∷ more) lawful known is = absurd lawful

pub one_shape : (h : List Revision) (edges : List Edge) (at : ℕ) → AreEdges edges → unknown_parent h edges ≡ None → at ∷ [] ≡ parents_of h edges → (e : Edge) × (edges ≡ e ∷ []) × (option_and_then (place_of h) e.parent ≡ Some at)
one_shape h [] at lawful known is = absurd lawful
one_shape h (e ∷ []) at lawful known is = (e, refl, one_of at (option_and_then (place_of h) e.parent) is)
one_shape h (e ∷ f ∷ []) at lawful known is =
    let b = both_there h e.parent f.parent lawful.2 (known_of h (e ∷ f ∷ []) known) in
    absurd (not_one at b.0 b.1 (option_and_then (place_of h) e.parent) (option_and_then (place_of h) f.parent) b.2 b.3 is)
one_shape h (e ∷ f ∷ g ∷ more) at lawful known is = absurd lawful

pub two_shape : (h : List Revision) (edges : List Edge) (left right : ℕ) → AreEdges edges → unknown_parent h edges ≡ None → left ∷ right ∷ [] ≡ parents_of h edges →
    (e : Edge) × (f : Edge) × (edges ≡ e ∷ f ∷ []) × (option_and_then (place_of h) e.parent ≡ Some left) × (option_and_then (place_of h) f.parent ≡ Some right)
two_shape h [] left right lawful known is = absurd lawful
two_shape h (e ∷ []) left right lawful known is = absurd (not_two left right (option_and_then (place_of h) e.parent) is)
two_shape h (e ∷ f ∷ []) left right lawful known is =
    let b = both_there h e.parent f.parent lawful.2 (known_of h (e ∷ f ∷ []) known) in
    let t = two_of left right b.0 b.1 (option_and_then (place_of h) e.parent) (option_and_then (place_of h) f.parent) b.2 b.3 is in
    (e, f, refl, t.0, t.1)
two_shape h (e ∷ f ∷ g ∷ more) left right lawful known is = absurd lawful

-- what is kept of one parent
pub record HasKept (h : List Revision) (ks : List Kept) (at : ℕ) (es : Entries) (t : MarkedTree) (depth : ℕ) : Type 0 where
  pub kept : Kept
  pub there : slice_get ks at ≡ Some kept
  pub entries : es ≡ kept.entries
  pub marked : IsMarkedAt h at t
  pub deep : depth ≡ kept.depth

pub one_basis : (h : List Revision) (ks : List Kept) (fresh : NewRevision) (places : List ℕ) (at : ℕ) (es : Entries) (t : MarkedTree) (depth : ℕ) → AreEdges fresh.read.now.edges → AreOn h fresh places → places ≡ at ∷ [] →
    HasKept h ks at es t depth → (e : Edge) × (fresh.read.now.edges ≡ e ∷ []) × IsParentAt h e at t × AreParents h ks fresh.read.now.edges places (es ∷ []) depth
one_basis h ks fresh places at es t depth lawful on one has =
    let shape = one_shape h fresh.read.now.edges at lawful on.known (sym one ∙ on.stand) in (
      shape.0,
      shape.1,
      record { place = shape.2; marked = has.marked },
      record {
        stand = on.stand;
        kept = subst (λ ps. AreKeptAt ks ps (es ∷ [])) (sym one) ((has.kept, has.there, has.entries), tt);
        deep = subst (λ ps. IsFirstDepth ks ps depth) (sym one) (has.kept, has.there, has.deep);
      },
    )

pub two_basis : (h : List Revision) (ks : List Kept) (fresh : NewRevision) (places : List ℕ) (left right : ℕ) (es gs : Entries) (t u : MarkedTree) (depth below : ℕ) (only_left only_right : Uncommon) →
    AreEdges fresh.read.now.edges → AreOn h fresh places → places ≡ left ∷ right ∷ [] → HasKept h ks left es t depth → HasKept h ks right gs u below → AreUncommonIn h left right only_left → AreUncommonIn h right left only_right →
    (e : Edge) × (g : Edge) × (fresh.read.now.edges ≡ e ∷ g ∷ []) × AreTwoParents h e g t u only_left only_right × AreParents h ks fresh.read.now.edges places (es ∷ gs ∷ []) depth
two_basis h ks fresh places left right es gs t u depth below only_left only_right lawful on two first second lefts rights =
    let shape = two_shape h fresh.read.now.edges left right lawful on.known (sym two ∙ on.stand) in (
      shape.0,
      shape.1,
      shape.2,
      record { p = left; q = right; left_at = record { place = shape.3; marked = first.marked }; right_at = record { place = shape.4; marked = second.marked }; left_alone = lefts; right_alone = rights },
      record {
        stand = on.stand;
        kept = subst (λ ps. AreKeptAt ks ps (es ∷ gs ∷ [])) (sym two) ((first.kept, first.there, first.entries), ((second.kept, second.there, second.entries), tt));
        deep = subst (λ ps. IsFirstDepth ks ps depth) (sym two) (first.kept, first.there, first.deep);
      },
    )

pub root_basis : (h : List Revision) (ks : List Kept) (fresh : NewRevision) (places : List ℕ) → AreEdges fresh.read.now.edges → AreOn h fresh places → places ≡ [] →
    (e : Edge) × (fresh.read.now.edges ≡ e ∷ []) × (e.parent ≡ None) × AreParents h ks fresh.read.now.edges places [] 0
root_basis h ks fresh places lawful on none =
    let shape = root_shape h fresh.read.now.edges lawful on.known (sym none ∙ on.stand) in (
      shape.0,
      shape.1,
      shape.2,
      record {
        stand = on.stand;
        kept = subst (λ ps. AreKeptAt ks ps []) (sym none) tt;
        deep = subst (λ ps. IsFirstDepth ks ps 0) (sym none) tt;
      },
    )

-- what a draft's history has as the basis of some edges
abbrev pub AreBased : Option Contents → Pending → List Edge → Basis → Id → List ℕ → List Entries → ℕ → Type 0
AreBased told q edges basis id places known depth = (f : List ℕ → List ℕ) (s : State) → (d : IsFounded f told q s) → Underlies d.stands.history edges basis id × AreParents d.stands.history d.stands.kept edges places known depth

pub moved_based : (told : Option Contents) (p q : Pending) → p ≡ q → (edges : List Edge) (basis : Basis) (id : Id) (places : List ℕ) (known : List Entries) (depth : ℕ) → AreBased told p edges basis id places known depth → AreBased told q edges basis id places known depth
moved_based told p q is edges basis id places known depth h = subst (λ (x : Pending). AreBased told x edges basis id places known depth) is h

pub under : (h : List Revision) (edges : List Edge) (basis : Basis) (id : Id) (shape : List Edge) → IsGrown h → place_of h id ≡ None → edges ≡ shape → IsBasis h shape basis → Underlies h edges basis id
under h edges basis id shape grown new is has = record { grown = grown; fresh = new; parents = subst (λ (es : List Edge). IsBasis h es basis) (sym is) has }

-- edges without a parent are one, over which nothing has to stand
pub root_alone : (edges : List Edge) → AreEdges edges → All (λ (e : Edge). e.parent ≡ None) edges → (e : Edge) × (edges ≡ e ∷ []) × (e.parent ≡ None)
root_alone [] lawful none = absurd lawful
root_alone (e ∷ []) lawful none = (e, refl, none 0 e (omega arith))
root_alone (e ∷ f ∷ []) lawful none = absurd (subst (λ o. Ascend o f.parent) (none 0 e (omega arith)) lawful.2)
root_alone (e ∷ f ∷ g ∷ more) lawful none = absurd lawful

pub under_none : (edges : List Edge) (id : Id) → AreEdges edges → All (λ (e : Edge). e.parent ≡ None) edges → Underlies [] edges Root id
under_none edges id lawful none = let alone = root_alone edges lawful none in under [] edges Root id (alone.0 ∷ []) grown_none refl alone.1 alone.2

pub some_places : (at : ℕ) (more places : List ℕ) → places ≡ at ∷ more → places ≡ [] → ⊥
some_places at more places is none = let long : length (at ∷ more) ≡ 0 = ap length (sym is ∙ none) in omega (arith, long)

pub no_places : (places : List ℕ) → length places < 1 → places ≡ []
no_places [] lt = refl
no_places (p ∷ ps) lt = absurd (omega (arith, lt))
