-- The fault of joining by what the sets of uncommon ancestors tell is that by the ancestors of both parents.
use Rattle.std.specs.Prelude.{IsTrue, ◌&&◌, ◌||◌, not, if◌then◌else◌, map, filter_map, reverse, option_map, option_and_then}
use Rattle.std.specs.BTreeSet.{contains}
use Rattle.std.specs.Option.{option_map_or}
use Rattle.std.specs.FinMap.Entries.{by_order}
use Rattle.std.proofs.Common.{◌≡◌, ◌≢◌, ℕ, Bool, true, false, List, [], ◌∷◌, ◌++◌, Option, Some, None, refl, sym, ◌∙◌, ap, subst, inr}
use Rattle.mtn_base.specs.Names.{same_id, path_cmp}
use Rattle.mtn_base.specs.declared.id.Id.{Id}
use Rattle.mtn_base.specs.declared.name.NodeName.{NodeName}
use Rattle.mtn_ancestry.specs.Ancestors.{IsAncestor}
use Rattle.mtn_changes.specs.declared.change.Change.{Change}
use Rattle.mtn_changeset_laws.specs.Changes.{first_fault, tree_after}
use Rattle.mtn_changeset_laws.specs.Joining.{JoinWhy, is_old, disagree, join_why, fault_at, least, join_fault}
use Rattle.mtn_changeset_laws.specs.Joining.JoinWhy.{Disagree, Revived}
use Rattle.mtn_changeset_laws.specs.Laws.{RenamesDiffer, NoneBornIn}
use Rattle.mtn_changeset_laws.proofs.AfterSane.{after_is_sane}
use Rattle.mtn_changeset_laws.proofs.Stepping.{after_descends}
use Rattle.mtn_history_laws.specs.History.{Revision, parents_at, tree_at, IsPlaceOf, IsGrown, TellsAncestors}
use Rattle.mtn_history_laws.proofs.Scalars.{some_of}
use Rattle.mtn_join.specs.Join.{id_cmp, is_outside}
use Rattle.mtn_replay.specs.Making.{place_of, is_above}
use Rattle.mtn_replay.proofs.Places.{above_tells}
use Rattle.mtn_roster.specs.declared.entry.Entry.{Entry}
use Rattle.mtn_roster.specs.Tree.{Tree, IsSane, entry_of, node_at, path_of}
use Rattle.mtn_roster.proofs.Forest.{node_there}
use Rattle.mtn_roster.proofs.Ordered.{forest_of}
use Rattle.mtn_base.proofs.Tests.{same_id-self}
use Rattle.mtn_make_roster.specs.Basis.{AreUncommonIn}
use Rattle.mtn_make_roster.specs.declared.basis.Uncommon.{Uncommon}

revived_same : (ox oy a b a' b' : Bool) → (ox ≡ true → a ≡ a') → (oy ≡ true → b ≡ b') → ((ox && not oy && a) || (oy && not ox && b)) ≡ ((ox && not oy && a') || (oy && not ox && b'))
revived_same true true a b a' b' f g = refl
revived_same true false a b a' b' f g = ap (λ z. z || false) (f refl)
revived_same false true a b a' b' f g = g refl
revived_same false false a b a' b' f g = refl

module _ (new : Id) (al ar al' ar' : Id → Bool) where
  least_same : (fs : List (List (List ℕ) × JoinWhy)) → least new al ar fs ≡ least new al' ar' fs
  least_same [] = refl
  least_same (f ∷ fs) = ap (λ o. Some (option_map_or (λ g. by_order (path_cmp f.0 g.0) f f g) o f)) (least_same fs)

  why_same : (x y : Option Entry) → ((e : Entry) → x ≡ Some e → is_old new e ≡ true → ar e.name.birth ≡ ar' e.name.birth) → ((e : Entry) → y ≡ Some e → is_old new e ≡ true → al e.name.birth ≡ al' e.name.birth) →
      join_why new al ar x y ≡ join_why new al' ar' x y
  why_same None y f g = refl
  why_same (Some x) None f g = refl
  why_same (Some x) (Some y) f g =
      ap (λ b. if disagree new x y then Some Disagree else (if b then Some Revived else None))
      (revived_same (is_old new x) (is_old new y) (ar x.name.birth) (al y.name.birth) (ar' x.name.birth) (al' y.name.birth) (f x refl) (g y refl))

  -- tests that agree on the births of old nodes find one fault
  pub faults_same : (l r : Tree) → ((p : List (List ℕ)) (e : Entry) → node_at l p ≡ Some e → is_old new e ≡ true → ar e.name.birth ≡ ar' e.name.birth) →
      ((p : List (List ℕ)) (e : Entry) → node_at r p ≡ Some e → is_old new e ≡ true → al e.name.birth ≡ al' e.name.birth) →
      join_fault new al ar l r ≡ join_fault new al' ar' l r
  faults_same l r f g =
      let each : (p : List (List ℕ)) → fault_at new al ar l r p ≡ fault_at new al' ar' l r p = λ p. ap (option_map (λ w. (p, w))) (why_same (node_at l p) (node_at r p) (f p) (g p)) in
      ap (λ h. least new al ar (filter_map h (map (path_of l) l ++ map (path_of r) r))) (λ i p. each p i)
      ∙ least_same (filter_map (fault_at new al' ar' l r) (map (path_of l) l ++ map (path_of r) r))

old_is : (new : Id) (e : Entry) → is_old new e ≡ true → e.name.birth ≢ new
old_is new e old same = let yes : same_id e.name.birth new ≡ true = ap (λ i. same_id i new) same ∙ same_id-self new in let no : true ≡ false = sym old ∙ ap not yes in absurd cc

module _ (h : List Revision) (grown : IsGrown h) where
  -- a revision is outside those that its descendant lacks
  pub outside_own : (p q : ℕ) (u : Uncommon) → AreUncommonIn h p q u → (i : Id) (b : ℕ) → IsPlaceOf h i b → IsAncestor (parents_at h) b q → IsTrue (is_outside u.ids i)
  outside_own p q u are i b place above = by (contains id_cmp u.ids i) refl
    where
      by : (c : Bool) → contains id_cmp u.ids i ≡ c → not c ≡ true
      by false is = refl
      by true is = absurd (
          let t = (are.ids i).0 is in
          let same = grown.differ i t.0 b t.2 place in
          ((are.positions t.0).0 t.1).1 (subst (λ k. IsAncestor (parents_at h) k q) (sym same) above))

  tells : (parent : Option Id) (q : ℕ) → option_and_then (place_of h) parent ≡ Some q → TellsAncestors h q (is_above h parent)
  tells None q e = absurd cc
  tells (Some id) q e = above_tells h grown.earlier id q e

  -- of an ancestor of the one parent, both tests tell whether it is one of the other
  pub test_same : (parent : Option Id) (p q : ℕ) (u : Uncommon) → option_and_then (place_of h) parent ≡ Some q → AreUncommonIn h p q u →
      (i : Id) (b : ℕ) → IsPlaceOf h i b → IsAncestor (parents_at h) b p → is_above h parent i ≡ is_outside u.ids i
  test_same parent p q u at are i b place above = by (is_above h parent i) (contains id_cmp u.ids i) refl refl
    where
      told : TellsAncestors h q (is_above h parent)
      told = tells parent q at

      by : (a c : Bool) → is_above h parent i ≡ a → contains id_cmp u.ids i ≡ c → a ≡ not c
      by true true ea ec = absurd (
          let t = (are.ids i).0 ec in
          let s = (told i).0 ea in
          ((are.positions t.0).0 t.1).1 (subst (λ k. IsAncestor (parents_at h) k q) (grown.differ i s.0 t.0 s.1 t.2) s.2))
      by true false ea ec = refl
      by false true ea ec = refl
      by false false ea ec = absurd (
          let alone = (are.positions b).1 (above, λ a. let yes : true ≡ false = sym ((told i).1 (b, place, a)) ∙ ea in absurd cc) in
          let yes : true ≡ false = sym ((are.ids i).1 (b, alone, place)) ∙ ec in cc)

  -- the tree that an edge without a fault makes of that of the revision at p
  module _ (p : ℕ) (old : Tree) (is : tree_at h p ≡ old) (sane : IsSane old) (new : Id) (all : List Change) (once : RenamesDiffer all) (unborn : NoneBornIn old new) (fine : first_fault old all ≡ None) where
    pub made_sane : IsSane (tree_after old all new)
    made_sane = after_is_sane old all new (inr sane) once unborn fine

    -- the birth of an old node of it is an ancestor
    pub birth_above : (n : NodeName) (x : Entry) → entry_of (tree_after old all new) n ≡ Some x → n.birth ≢ new → (b : ℕ) × IsPlaceOf h n.birth b × IsAncestor (parents_at h) b p
    birth_above n x there strange =
        let d = after_descends old all new (inr sane) once unborn fine in
        let f = some_of (entry_of old n) (d.from n x there strange) in
        grown.born p n f.0 (ap (λ t. entry_of t n) is ∙ f.1)

    pub birth_at : (path : List (List ℕ)) (e : Entry) → node_at (tree_after old all new) path ≡ Some e → is_old new e ≡ true → (b : ℕ) × IsPlaceOf h e.name.birth b × IsAncestor (parents_at h) b p
    birth_at path e at old_one = birth_above e.name e (node_there (tree_after old all new) (forest_of (tree_after old all new) made_sane) (reverse path) e at) (old_is new e old_one)
