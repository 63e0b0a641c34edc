-- Two edges are a step.
use Rattle.std.specs.Prelude.{IsSome, IsTrue, Contains}
use Rattle.std.proofs.Common.{◌≡◌, ◌≢◌, ℕ, zero, suc, ◌<◌, Bool, List, [], ◌∷◌, length, get_or, Option, Some, None, refl, sym, ◌∙◌, ap, subst, ◌⊎◌, inl, inr, ⊎_elim, arith}
use Rattle.mtn_base.specs.declared.id.Id.{Id}
use Rattle.mtn_base.specs.declared.name.NodeName.{NodeName}
use Rattle.mtn_roster.specs.declared.entry.Entry.{Entry}
use Rattle.mtn_changes.specs.declared.change.Change.{Change}
use Rattle.mtn_roster.specs.Tree.{Tree, entry_of, IsSane}
use Rattle.mtn_changeset_laws.specs.Changes.{first_fault, tree_after}
use Rattle.mtn_changeset_laws.specs.Joining.{join_fault, joined}
use Rattle.mtn_changeset_laws.specs.Laws.{RenamesDiffer, NoneBornIn, Descends, CommonAreKnown, IsFresh, PassesAncestors}
use Rattle.mtn_history_laws.specs.History.{Revision, parents_at, tree_at, entry_at, IsPlaceOf, BirthsAreKnown, IsStep}
use Rattle.mtn_ancestry.specs.Ancestors.{IsAncestor}
use Rattle.mtn_changeset_laws.proofs.AfterSane.{after_is_sane}
use Rattle.mtn_changeset_laws.proofs.Stepping.{after_descends, here_in, unborn_at, none_there}
use Rattle.mtn_changeset_laws.proofs.Joins.{OnLeft, OnRight, on_either, known_left, known_right, joined_is_sane}

two_in : {X : Type 0} (x y z : X) → Contains (x ∷ y ∷ []) z → (z ≡ x) ⊎ (z ≡ y)
two_in x y z c = go c.0 c.1 c.2
  where
    go : (k : ℕ) → k < length (x ∷ y ∷ []) → get_or (x ∷ y ∷ []) k z ≡ z → (z ≡ x) ⊎ (z ≡ y)
    go zero h e = inl (sym e)
    go (suc zero) h e = inr (sym e)
    go (suc (suc k)) h e = absurd (omega arith)

some_at : {A : Type 0} (o : Option A) → IsSome o → (a : A) × (o ≡ Some a)
some_at None h = absurd cc
some_at (Some a) h = (a, refl)

is_some_at : {A : Type 0} (o : Option A) (a : A) → o ≡ Some a → IsSome o
is_some_at o a e = subst IsSome (sym e) refl

module _ (log : List Revision) (p q : ℕ) (cl cr : List Change) (id : Id) (al ar : Id → Bool) (births : BirthsAreKnown log)
    (lp : p < length log) (lq : q < length log) (differ : p ≢ q) (sl : IsSane (tree_at log p)) (sr : IsSane (tree_at log q)) (fresh : IsFresh log id)
    (onl : RenamesDiffer cl) (onr : RenamesDiffer cr) (finel : first_fault (tree_at log p) cl ≡ None) (finer : first_fault (tree_at log q) cr ≡ None)
    (tella : PassesAncestors log p al) (tellb : PassesAncestors log q ar)
    (fine : join_fault id al ar (tree_after (tree_at log p) cl id) (tree_after (tree_at log q) cr id) ≡ None) where
  abbrev tl : Tree
  tl = tree_at log p

  abbrev tr : Tree
  tr = tree_at log q

  abbrev l : Tree
  l = tree_after tl cl id

  abbrev r : Tree
  r = tree_after tr cr id

  unl : NoneBornIn tl id
  unl = unborn_at log p id births fresh

  unr : NoneBornIn tr id
  unr = unborn_at log q id births fresh

  dl : Descends tl l id
  dl = after_descends tl cl id (inr sl) onl unl finel

  dr : Descends tr r id
  dr = after_descends tr cr id (inr sr) onr unr finer

  ll : IsSane l
  ll = after_is_sane tl cl id (inr sl) onl unl finel

  rr : IsSane r
  rr = after_is_sane tr cr id (inr sr) onr unr finer

  -- a node of the left parent is known there
  above_left : (n : NodeName) (f : Entry) → entry_of tl n ≡ Some f → IsTrue (al n.birth)
  above_left n f h = let b = births p n f h in tella n.birth b.0 b.1 b.2

  above_right : (n : NodeName) (f : Entry) → entry_of tr n ≡ Some f → IsTrue (ar n.birth)
  above_right n f h = let b = births q n f h in tellb n.birth b.0 b.1 b.2

  common : CommonAreKnown l r id al ar
  common n x y h k strange =
      let a = some_at (entry_of tl n) (dl.from n x h strange) in
      let b = some_at (entry_of tr n) (dr.from n y k strange) in
      (above_left n a.0 a.1, above_right n b.0 b.1)

  abbrev t : NodeName → Option Entry
  t = entry_of (joined l r id)

  from : (n : NodeName) (e : Entry) → t n ≡ Some e → n.birth ≢ id → (s : ℕ) × Contains (p ∷ q ∷ []) s × IsSome (entry_at log s n)
  from n e h strange = ⊎_elim
      (λ a. (p, here_in p (q ∷ []), dl.from n a.x a.there strange))
      (λ b. (q, (1, omega arith, refl), dr.from n b.y b.there strange))
      (on_either l r id al ar ll rr fine common n e h)

  lost_left : (n : NodeName) (e : Entry) → t n ≡ Some e → n.birth ≢ id → entry_of tl n ≡ None → (b : ℕ) → IsPlaceOf log n.birth b → IsAncestor (parents_at log) b p → ⊥
  lost_left n e h strange lost b place above =
      let a = known_left l r id al ar ll rr fine common n e h strange (tella n.birth b place above) in
      none_there (entry_of tl n) (dl.from n a.x a.there strange) lost

  lost_right : (n : NodeName) (e : Entry) → t n ≡ Some e → n.birth ≢ id → entry_of tr n ≡ None → (b : ℕ) → IsPlaceOf log n.birth b → IsAncestor (parents_at log) b q → ⊥
  lost_right n e h strange lost b place above =
      let a = known_right l r id al ar ll rr fine common n e h strange (tellb n.birth b place above) in
      none_there (entry_of tr n) (dr.from n a.y a.there strange) lost

  -- a node of a parent's tree that is joined stands on that side
  on_left_of : (n : NodeName) (e f : Entry) → t n ≡ Some e → entry_of tl n ≡ Some f → OnLeft l r id al ar ll rr fine common n e
  on_left_of n e f h k = known_left l r id al ar ll rr fine common n e h (unl n f k) (above_left n f k)

  on_right_of : (n : NodeName) (e f : Entry) → t n ≡ Some e → entry_of tr n ≡ Some f → OnRight l r id al ar ll rr fine common n e
  on_right_of n e f h k = known_right l r id al ar ll rr fine common n e h (unr n f k) (above_right n f k)

  at_parent : (s : ℕ) (n : NodeName) (o : Option Entry) → Contains (p ∷ q ∷ []) s → entry_at log s n ≡ o → (entry_of tl n ≡ o) ⊎ (entry_of tr n ≡ o)
  at_parent s n o c e = ⊎_elim
      (λ d. inl (ap (λ k. entry_at log k n) (sym d) ∙ e))
      (λ d. inr (ap (λ k. entry_at log k n) (sym d) ∙ e))
      (two_in p q s c)

  pub two_step : IsStep log (record { id = id; parents = p ∷ q ∷ []; tree = joined l r id })
  two_step = record {
    known = λ s c. ⊎_elim (λ d. subst (λ k. k < length log) (sym d) lp) (λ d. subst (λ k. k < length log) (sym d) lq) (two_in p q s c);
    two = omega arith;
    apart = λ s t e. let g : p ≡ s = cc in let h : q ≡ t = cc in λ same. differ (g ∙ same ∙ sym h);
    fresh_id = fresh;
    sane = joined_is_sane l r id al ar ll rr fine common;
    from = from;
    not_revived = λ s n e c h strange lost b place above. ⊎_elim
        (λ d. lost_left n e h strange (ap (λ k. entry_at log k n) (sym d) ∙ lost) b place (subst (λ k. IsAncestor (parents_at log) b k) d above))
        (λ d. lost_right n e h strange (ap (λ k. entry_at log k n) (sym d) ∙ lost) b place (subst (λ k. IsAncestor (parents_at log) b k) d above))
        (two_in p q s c);
    kind = λ s n e f c h k. ⊎_elim
        (λ g. let a = on_left_of n e f h g in a.kind ∙ dl.kind n a.x f a.there g)
        (λ g. let a = on_right_of n e f h g in a.kind ∙ dr.kind n a.y f a.there g)
        (at_parent s n (Some f) c k);
    keys = λ s n key e f c h k there. ⊎_elim
        (λ g. let a = on_left_of n e f h g in a.keys key (dl.keys n key a.x f a.there g there))
        (λ g. let a = on_right_of n e f h g in a.keys key (dr.keys n key a.y f a.there g there))
        (at_parent s n (Some f) c k);
  }
